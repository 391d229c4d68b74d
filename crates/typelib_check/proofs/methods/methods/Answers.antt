use Rattle.typelib_faults.specs.Faults.{method_fault, method_next}
use Rattle.typelib_faults.proofs.WalkFacts.{left_next}
use Rattle.typelib_check.proofs.methods.methods.Goals as goal

pub loop-preserved : goal.loop-preserved
loop-preserved c =
    left_next (method_fault c.args.file.now.bytes.now) (method_next c.args.file.now.bytes.now) _ c.loop.invariant c.loop-test.true c.in_ok-next.ensures.0 c.in_ok-next.ensures.1
