use Rattle.std.proofs.Common.{[], subst, sym, ◌+◌, ◌≤◌, length}
use Rattle.std.specs.Prelude.{fold}
use Rattle.std.proofs.lemmas.List.{take_all}
use Rattle.object_memory.specs.declared.layout.TheConstants.{STACK_LIMIT}
use Rattle.script_meaning.specs.Enters.{pushed_this, stack_after}
use Rattle.entered_frames.specs.Frames.{HoldsItems}
use Rattle.entered_frames.proofs.Entered.{entered, stack-fits}
use Rattle.entered_frames.proofs.frames.enter_frame.Goals as goal

pub begin_frame-requires : goal.begin_frame-requires
begin_frame-requires c =
    subst (λ bytes. length (pushed_this c.args.conv 0) + length bytes ≤ STACK_LIMIT)
    (sym c.stack_of.ensures) (stack-fits c.args.conv c.args.items.now c.requires)

pub returns : goal.returns
returns c =
    entered c.args.conv c.args.this c.args.items.now c.loop-item.frame
    (subst (λ items. HoldsItems c.args.conv c.args.this items (fold stack_after [] c.args.items.now) c.loop-item.frame)
    (take_all c.loop-item.item-index c.args.items.now c.loop-item-test.false) c.loop-item.invariant)
