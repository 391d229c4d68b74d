use Rattle.std.proofs.Common.{◌-◌, ◌^◌, ◌∙◌, arith}
use Rattle.big_texts.proofs.SumLaws.{borrowed_next}
use Rattle.big_texts.proofs.summary.sum_on.Goals as goal

pub loop-line-preserved : goal.loop-line-preserved
loop-line-preserved c =
    let value = rw (c.as_slice.ensures.value, c.in_ok-words.ensures) at c.value_in.ensures in
    let saturated = rw (c.loop-line.invariant, value) at c.saturating_add-sum.ensures in
    saturated ∙ borrowed_next c.args.lines.now c.loop-line.line-index _ (2 ^ 128 - 1) (omega (arith, c.loop-line-test.true))
