use Rattle.typelib_faults.specs.Faults.{constant_fault, constant_next}
use Rattle.typelib_check.proofs.StepLaws.{IsAt}
use Rattle.descriptor_reader.proofs.constants.constant_by_number.Given as goal

abbrev pub invariant-loop : goal.invariant-loop
invariant-loop l =
    IsAt (constant_fault l.file.bytes.now) (constant_next l.file.bytes.now) l.fn.constants.from l.fn.constants.count l.at l.counter
