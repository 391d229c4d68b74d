use Rattle.std.proofs.Common.{◌≡◌, ◌*◌, min, IfOk, None, ap, sym, subst, ◌∙◌}
use Rattle.std.specs.Option.{option_copied, option_map_or}
use Rattle.call_model.specs.Values.{own_len}
use Rattle.call_replies.specs.Blocks.{data_at}
use Rattle.script_meaning.specs.Outs.{elements_text}
use Rattle.transcript_text.specs.Outs.{no_elements_word}
use Rattle.script_outs.proofs.Elements.{clipped-data, clipped-twice}
use Rattle.script_outs.proofs.arrays.elements_at.Goals as goal

pub returns-in-None : goal.returns-in-None
returns-in-None c = λ held h.
    let conv = c.args.machine.now.conv in
    let len : c.from.result ≡ own_len conv c.args.elem =
    c.from.ensures ∙ c.own_len.ensures ∙ ap (λ v. own_len v c.args.elem) c.conv-conv.ensures in
    let n-is : c.clipped-n.result ≡ min (c.args.count * own_len conv c.args.elem) 18446744073709551615 =
    c.clipped-n.ensures
    ∙ ap (λ n. min n 18446744073709551615)
    (c.saturating_mul.ensures ∙ ap (λ l. min (c.args.count * l) 340282366920938463463374607431768211455) len)
    ∙ clipped-twice (c.args.count * own_len conv c.args.elem) in
    let none : data_at held c.args.address (c.args.count * own_len conv c.args.elem) ≡ None =
    sym (clipped-data c.args.machine.now held h c.data_at.ensures.laid_out c.args.address (c.args.count * own_len conv c.args.elem))
    ∙ ap (data_at held c.args.address) (sym n-is)
    ∙ sym (c.data_at.ensures.value held h) ∙ ap option_copied c.in-None.is in
    subst (λ t. IfOk c.copy.result (λ word. word ≡ t))
    (sym (ap (λ o. option_map_or (elements_text conv c.args.elem c.args.count) o no_elements_word) none)) c.copy.ensures
