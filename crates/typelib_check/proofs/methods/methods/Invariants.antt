use Rattle.typelib_faults.specs.Faults.{method_fault, method_next}
use Rattle.typelib_faults.proofs.WalkFacts.{Left}
use Rattle.typelib_check.proofs.methods.methods.Given as goal

abbrev pub invariant-loop : goal.invariant-loop
invariant-loop l =
    Left (method_fault l.file.bytes.now) (method_next l.file.bytes.now) l.fn.from l.fn.count l.at l.counter
