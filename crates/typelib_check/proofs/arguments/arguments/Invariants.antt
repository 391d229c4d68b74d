use Rattle.std.proofs.Common.{◌≡◌}
use Rattle.typelib_faults.specs.Faults.{args_fault, param_next}
use Rattle.typelib_faults.specs.Places.{param_at, param_end}
use Rattle.typelib_faults.specs.Walk.{reach, values}
use Rattle.typelib_faults.proofs.WalkFacts.{Left}
use Rattle.typelib_check.proofs.arguments.arguments.Given as goal

abbrev pub invariant-loop : goal.invariant-loop
invariant-loop l =
    (l.at ≡ reach (param_next l.file.bytes.now) l.fn.params.from l.counter)
    × Left (args_fault l.file.bytes.now (values (param_at l.file.bytes.now) (param_end l.file.bytes.now) l.fn.params.from.place l.fn.params.count)) (param_end l.file.bytes.now) l.fn.params.from.place l.fn.params.count l.at.place l.counter
