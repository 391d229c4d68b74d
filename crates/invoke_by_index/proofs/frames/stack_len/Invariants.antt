use Rattle.std.proofs.Common.{take}
use Rattle.invoke_by_index.proofs.frames.stack_len.Given as goal

abbrev pub invariant-loop-ty : goal.invariant-loop-ty
invariant-loop-ty g l = g.C.Convention.stands_for l.walk (take l.ty-index l.types)
