use Rattle.std.proofs.Common.{◌≡◌, drop}
use Rattle.idl_meaning.specs.Meaning.{nothing}
use Rattle.idl_meaning.specs.Faults as spec
use Rattle.idl_names.specs.Tables.{known}
use Rattle.idl_names.proofs.parameters.any_repeated.Given as goal

abbrev pub invariant-loop-param : goal.invariant-loop-param
invariant-loop-param l = spec.any_repeated nothing l.params ≡ spec.any_repeated (known l.before) (drop l.param-index l.params)
