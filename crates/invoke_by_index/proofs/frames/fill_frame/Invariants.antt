use Rattle.std.proofs.Common.{take}
use Rattle.call_model.specs.Placement.{stack_len_of}
use Rattle.call_model.specs.Values.{arguments}
use Rattle.invoke_by_index.proofs.Filled.{Holds}
use Rattle.invoke_by_index.proofs.frames.fill_frame.Given as goal

abbrev pub invariant-loop-i : goal.invariant-loop-i
invariant-loop-i g l = record {
  stands : g.C.Convention.stands_for l.walk (take l.i l.types);
  holds : Holds (arguments g.C.Convention.CONV (take l.i l.types) (take l.i l.patterns)) (stack_len_of g.C.Convention.CONV l.types) l.frame;
}
