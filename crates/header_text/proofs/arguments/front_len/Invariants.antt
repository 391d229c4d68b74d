use Rattle.std.proofs.Common.{◌≡◌, ◌+◌, drop, length}
use Rattle.prototype_lowering.specs.StaticTable.{front}
use Rattle.header_text.proofs.arguments.front_len.Given as goal

abbrev pub invariant-loop-k : goal.invariant-loop-k
invariant-loop-k l = l.k + length (front (drop l.k l.params)) ≡ length (front l.params)
