use Rattle.std.proofs.Common.{◌≡◌, ◌+◌, ◌*◌, ◌∷◌, ◌++◌, [], map, ap, sym, ◌∙◌, arith}
use Rattle.std.specs.Prelude.{slice_range}
use Rattle.std.specs.List.{range_with_len}
use Rattle.std.proofs.lemmas.List.FromFn.{map-range_with_len_more}
use Rattle.call_model.specs.Values.{canon}
use Rattle.xp_base.specs.LittleEndian.{number_of}
use Rattle.script_meaning.specs.Outs.{element_text}
use Rattle.transcript_text.specs.Texts.{value_text}
use Rattle.script_outs.proofs.arrays.element_words.Goals as goal

pub loop-i-preserved : goal.loop-i-preserved
loop-i-preserved c =
    let i = c.loop-i.i in
    let word = element_text c.args.conv c.args.elem c.args.bytes.now in
    let number : c.number_of-number.result ≡ number_of (slice_range c.args.bytes.now (i * c.own_len-len.result) (i * c.own_len-len.result + c.own_len-len.result)) =
    c.number_of-number.ensures in
    let text : c.in_ok-value_word.field-0 ≡ word i =
    c.in_ok-value_word.ensures
    ∙ ap (value_text c.args.elem) (c.canonical.ensures.pattern ∙ ap (canon c.args.conv c.args.elem) number)
    ∙ ap (λ n. value_text c.args.elem (canon c.args.conv c.args.elem (number_of (slice_range c.args.bytes.now (i * n) (i * n + n))))) c.own_len-len.ensures in
    c.in_ok-push.ensures.ok
    ∙ ap (λ l. l ++ c.in_ok-value_word.field-0 ∷ []) c.loop-i.invariant
    ∙ ap (λ w. map word (range_with_len 0 i) ++ w ∷ []) text
    ∙ sym (map-range_with_len_more word 0 i i (omega arith))
