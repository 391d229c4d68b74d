use Rattle.std.proofs.Common.{◌≡◌, length}
use Rattle.idl_meaning.specs.Faults as spec
use Rattle.idl_names.proofs.parameters.any_wrong_retval.Given as goal

abbrev pub invariant-turns : goal.invariant-turns
invariant-turns l = spec.any_wrong_retval l.gives l.params ≡ spec.any_wrong_retval l.gives l.rest

abbrev pub decreases-turns : goal.decreases-turns
decreases-turns l = length l.rest
