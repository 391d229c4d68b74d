use Rattle.std.proofs.Common.{◌≡◌}
use Rattle.idl_names.proofs.resolution.listed.Given as goal

abbrev pub invariant-loop-iface : goal.invariant-loop-iface
invariant-loop-iface l = l.list ≡ l.yielded
