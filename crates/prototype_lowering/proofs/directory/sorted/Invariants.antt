use Rattle.std.proofs.Common.{◌≡◌, [], drop}
use Rattle.prototype_lowering.specs.Directory.{entered}
use Rattle.prototype_lowering.proofs.Entries.{plain}
use Rattle.prototype_lowering.proofs.directory.sorted.Given as goal

abbrev pub invariant-loop-k : goal.invariant-loop-k
invariant-loop-k l = entered (plain l.map.entries) l.k (drop l.k l.ifaces) ≡ entered [] 0 l.ifaces
