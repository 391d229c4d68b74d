use Rattle.typelib_faults.specs.Faults.{constant_fault, constant_next}
use Rattle.typelib_faults.proofs.WalkFacts.{left_next}
use Rattle.typelib_check.proofs.constants.constants.Goals as goal

pub loop-preserved : goal.loop-preserved
loop-preserved c =
    left_next (constant_fault c.args.file.now.bytes.now) (constant_next c.args.file.now.bytes.now) _ c.loop.invariant c.loop-test.true c.in_ok-next.ensures.0 c.in_ok-next.ensures.1
