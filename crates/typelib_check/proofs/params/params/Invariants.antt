use Rattle.typelib_faults.specs.Faults.{param_fault, param_next}
use Rattle.typelib_faults.proofs.WalkFacts.{Left}
use Rattle.typelib_check.proofs.params.params.Given as goal

abbrev pub invariant-loop : goal.invariant-loop
invariant-loop l =
    Left (param_fault l.file.bytes.now) (param_next l.file.bytes.now) l.fn.from l.fn.count l.at l.counter
