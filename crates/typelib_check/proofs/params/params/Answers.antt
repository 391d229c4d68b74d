use Rattle.std.proofs.Common.{ap}
use Rattle.lib_model.specs.declared.param_types.Param.{Param}
use Rattle.typelib_faults.specs.declared.cursor.Cursor.{Cursor}
use Rattle.typelib_faults.specs.Faults.{param_fault, param_next}
use Rattle.typelib_faults.proofs.WalkFacts.{left_next}
use Rattle.typelib_check.proofs.params.params.Goals as goal

pub loop-preserved : goal.loop-preserved
loop-preserved c =
    left_next (param_fault c.args.file.now.bytes.now) (param_next c.args.file.now.bytes.now) _ c.loop.invariant c.loop-test.true c.in_ok-next.ensures.gives.0 (ap (λ (p : Param × Cursor). p.1) c.in_ok-next.ensures.gives.1)
