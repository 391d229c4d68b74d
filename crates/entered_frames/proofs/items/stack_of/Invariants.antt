use Rattle.std.proofs.Common.{◌≡◌, [], take}
use Rattle.std.specs.Prelude.{fold}
use Rattle.script_meaning.specs.Enters.{stack_after}
use Rattle.entered_frames.proofs.items.stack_of.Given as goal

-- the bytes of the items so far
abbrev pub invariant-loop-item : goal.invariant-loop-item
invariant-loop-item l = l.stack ≡ fold stack_after [] (take l.item-index l.items)
