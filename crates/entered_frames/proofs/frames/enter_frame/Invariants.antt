use Rattle.std.proofs.Common.{[], take}
use Rattle.std.specs.Prelude.{fold}
use Rattle.script_meaning.specs.Enters.{stack_after}
use Rattle.entered_frames.specs.Frames.{HoldsItems}
use Rattle.entered_frames.proofs.frames.enter_frame.Given as goal

-- the frame holds the items so far, on its whole stack
abbrev pub invariant-loop-item : goal.invariant-loop-item
invariant-loop-item l =
    HoldsItems l.conv l.this (take l.item-index l.items) (fold stack_after [] l.items) l.frame
