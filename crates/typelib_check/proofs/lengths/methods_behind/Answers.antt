use Rattle.std.proofs.Common.{arith}
use Rattle.typelib_check.proofs.StepLaws.{part_here, step_on}
use Rattle.typelib_check.proofs.lengths.methods_behind.Goals as goal

pub method_behind-at-requires : goal.method_behind-at-requires
method_behind-at-requires c = part_here c.loop.invariant (omega arith)

pub loop-preserved : goal.loop-preserved
loop-preserved c = step_on _ c.loop.invariant c.method_behind-at.ensures
