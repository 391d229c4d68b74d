-- Each word is written where the last one ended, and zeros are left behind the last.
use Rattle.std.proofs.Common.{◌≡◌, ◌*◌, length, replicate, refl, ap, ◌∙◌, arith}
use Rattle.std.proofs.lemmas.List.{length-replicate}
use Rattle.raw_block.specs.Bytes.{overwritten}
use Rattle.object_memory.specs.declared.layout.TheConstants.{SLOTS}
use Rattle.object_memory.specs.Layout.{space_for}
use Rattle.xp_base.specs.LittleEndian.{low_bytes}
use Rattle.object_memory.proofs.Growth.{no_words, words_next, all_words}
use Rattle.object_memory.proofs.blocks.vtable.Goals as goal

pub loop-slot-init : goal.loop-slot-init
loop-slot-init c = record { words = no_words c.in_ok-block.block c.args.word; same_length = refl }

pub loop-slot-preserved : goal.loop-slot-preserved
loop-slot-preserved c =
    let long : length c.in_ok-block.block ≡ space_for (SLOTS * c.args.word) = ap length (c.in_ok-block.ensures ∙ ap (λ k. replicate k 0) c.space_for.ensures) ∙ length-replicate (space_for (SLOTS * c.args.word)) 0 in
    record {
      words = c.put_low_bytes.ensures.written ∙ ap (λ l. overwritten l (c.loop-slot.slot * c.args.word) (low_bytes c.args.word c.entry_of.result)) c.loop-slot.invariant.words
          ∙ words_next c.in_ok-block.block c.args.word c.loop-slot.slot c.entry_of.result c.loop-slot-test.true long c.entry_of.ensures;
      same_length = c.put_low_bytes.ensures.same_length ∙ c.loop-slot.invariant.same_length;
    }

pub returns : goal.returns
returns c =
    all_words c.in_ok-block.block c.loop-slot.block c.args.word c.loop-slot.slot (c.in_ok-block.ensures ∙ ap (λ k. replicate k 0) c.space_for.ensures) c.loop-slot.invariant.words
    (omega (arith, c.loop-slot-test.false, c.loop-slot.auto.slot-end))
