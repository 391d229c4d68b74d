use Rattle.lib_model.specs.declared.param_types.Param.{Param}
use Rattle.lib_model.specs.Table.{is_opaque}
use Rattle.typelib_faults.specs.Faults.{param_fault, param_next}
use Rattle.typelib_faults.specs.Places.{param_at, param_end}
use Rattle.descriptor_reader.proofs.LoopLaws.{Fails, IsPast}
use Rattle.descriptor_reader.proofs.statuses.any_opaque.Given as goal

abbrev pub invariant-loop : goal.invariant-loop
invariant-loop l =
    IsPast (Fails (λ (p : Param). is_opaque p.ty)) (param_at l.file.bytes.now) (param_end l.file.bytes.now) (param_fault l.file.bytes.now) (param_next l.file.bytes.now) l.fn.params.from l.fn.params.count l.at l.counter
