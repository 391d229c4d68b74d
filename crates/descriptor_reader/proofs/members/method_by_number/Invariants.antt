use Rattle.typelib_faults.specs.Faults.{method_fault, method_next}
use Rattle.typelib_check.proofs.StepLaws.{IsAt}
use Rattle.descriptor_reader.proofs.members.method_by_number.Given as goal

abbrev pub invariant-loop : goal.invariant-loop
invariant-loop l =
    IsAt (method_fault l.file.bytes.now) (method_next l.file.bytes.now) l.fn.methods.from l.fn.methods.count l.at l.counter
