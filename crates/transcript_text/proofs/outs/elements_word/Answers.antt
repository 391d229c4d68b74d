use Rattle.std.proofs.Common.{◌∷◌, ◌++◌, [], take, codes, ap, ◌∙◌}
use Rattle.std.specs.List.{join_with_byte}
use Rattle.transcript_text.proofs.Joined.{first-joined, next-joined}
use Rattle.transcript_text.proofs.outs.elements_word.Goals as goal
use Rattle.transcript_text.proofs.outs.elements_word.Goals.{then-i-gt0+in_ok-append, else-i-gt0}

pub loop-i-preserved : goal.loop-i-preserved
loop-i-preserved c =
    c.in_ok-append-2.ensures.ok
    ∙ ap (λ l. c.if-i-gt0.word ++ l) c.as_slice.ensures
    ∙ elim c.if-i-gt0.branch [
      | then-i-gt0+in_ok-append w ↦
          ap (λ l. l ++ c.index-elements-i.result)
          (w.word-is ∙ w.in_ok-append.ensures.ok ∙ ap (λ l. l ++ 32 ∷ []) c.loop-i.invariant)
          ∙ ap (λ e. (codes "[" ++ join_with_byte 32 (take c.loop-i.i c.args.elements.now) ++ 32 ∷ []) ++ e) c.index-elements-i.is
          ∙ ap (λ l. codes "[" ++ l) (next-joined 32 c.args.elements.now c.loop-i.i c.index-elements-i.result c.loop-i-test.true w.if-i-gt0.true)
      | else-i-gt0 w ↦
          ap (λ l. l ++ c.index-elements-i.result) (w.word-is ∙ c.loop-i.invariant)
          ∙ ap (λ l. codes "[" ++ l) (ap (λ e. join_with_byte 32 (take c.loop-i.i c.args.elements.now) ++ e) c.index-elements-i.is ∙ first-joined 32 c.args.elements.now c.loop-i.i c.index-elements-i.result c.loop-i-test.true w.if-i-gt0.false)
    ]
