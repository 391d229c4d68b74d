use Rattle.typelib_faults.specs.Faults.{constant_fault, constant_next}
use Rattle.typelib_faults.proofs.WalkFacts.{Left}
use Rattle.typelib_check.proofs.constants.constants.Given as goal

abbrev pub invariant-loop : goal.invariant-loop
invariant-loop l =
    Left (constant_fault l.file.bytes.now) (constant_next l.file.bytes.now) l.fn.from l.fn.count l.at l.counter
