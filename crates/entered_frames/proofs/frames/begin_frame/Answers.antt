use Rattle.std.proofs.Common.{[], subst, sym}
use Rattle.object_memory.specs.Frames.{IsPlace, Puts}
use Rattle.call_model.specs.Placement.{word_of}
use Rattle.script_meaning.specs.Enters.{place_of_this}
use Rattle.entered_frames.specs.Frames.{HoldsItems}
use Rattle.entered_frames.proofs.Entered.{begun, place-fits}
use Rattle.entered_frames.proofs.frames.begin_frame.Goals as goal

pub put-requires : goal.put-requires
put-requires c =
    subst (λ at. IsPlace c.clear.new.self at c.word_of.result) (sym c.place_of_this.ensures)
    (subst (λ n. IsPlace c.clear.new.self (place_of_this c.args.conv) n) (sym c.word_of.ensures)
    (place-fits c.args.conv c.args.this c.args.stack.now c.clear.new.self c.clear.new.self
    c.pushed_len-pushed.result (c.pushed_len-pushed.ensures.len c.args.this) c.clear.ensures))

pub returns : goal.returns
returns c =
    let old = c.clear.new.self in
    let new = c.put.new.self in
    let puts : Puts old new (place_of_this c.args.conv) (word_of c.args.conv) c.args.this =
    subst (λ n. Puts old new (place_of_this c.args.conv) n c.args.this) c.word_of.ensures
    (subst (λ at. Puts old new at c.word_of.result c.args.this) c.place_of_this.ensures c.put.ensures)
    in
    subst (HoldsItems c.args.conv c.args.this [] c.args.stack.now) (sym c.set_stack_bytes.ensures)
    (begun c.args.conv c.args.this c.args.stack.now old new c.pushed_len-pushed.result
    (c.pushed_len-pushed.ensures.len c.args.this) c.clear.ensures puts)
