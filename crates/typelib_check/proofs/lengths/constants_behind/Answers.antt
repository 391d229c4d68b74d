use Rattle.std.proofs.Common.{arith}
use Rattle.typelib_check.proofs.StepLaws.{part_here, step_on}
use Rattle.typelib_check.proofs.lengths.constants_behind.Goals as goal

pub constant_behind-at-requires : goal.constant_behind-at-requires
constant_behind-at-requires c = part_here c.loop.invariant (omega arith)

pub loop-preserved : goal.loop-preserved
loop-preserved c = step_on _ c.loop.invariant c.constant_behind-at.ensures
