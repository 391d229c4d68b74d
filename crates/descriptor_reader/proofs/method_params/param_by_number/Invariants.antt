use Rattle.std.proofs.Common.{◌≡◌}
use Rattle.typelib_faults.specs.Places.{param_end}
use Rattle.typelib_faults.specs.Walk.{reach}
use Rattle.descriptor_reader.proofs.method_params.param_by_number.Given as goal

abbrev pub invariant-loop : goal.invariant-loop
invariant-loop l = l.place ≡ reach (param_end l.file.bytes.now) l.fn.params.from.place l.counter
