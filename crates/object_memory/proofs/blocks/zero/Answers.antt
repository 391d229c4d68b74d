-- The zero is written where the last ones ended.
use Rattle.std.proofs.Common.{◌<◌, length, [], ◌∷◌, ap, ◌∙◌, arith}
use Rattle.raw_block.specs.Bytes.{overwritten}
use Rattle.object_memory.proofs.Lists.{zeros_next}
use Rattle.object_memory.proofs.blocks.zero.Goals as goal

pub loop-i-preserved : goal.loop-i-preserved
loop-i-preserved c =
    let lt : c.loop-i.i < length c.args.block.now = omega (arith, c.requires.1, c.loop-i-test.true) in
    c.store1.ensures ∙ ap (λ l. overwritten l c.loop-i.i (0 ∷ [])) c.loop-i.invariant ∙ zeros_next c.args.block.now c.args.start c.loop-i.i c.loop-i.auto.i lt
