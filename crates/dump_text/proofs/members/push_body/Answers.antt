use Rattle.std.proofs.Common.{◌≡◌, true, refl, sym, ap, ◌∙◌}
use Rattle.std.specs.Prelude.{is_some}
use Rattle.lib_model.specs.Valid.{body_of}
use Rattle.dump_text.specs.Words.{iface_word, number}
use Rattle.dump_text.proofs.IfaceLaws.{body_is, resolved_text}
use Rattle.dump_text.proofs.MemberLaws.{added, told_is}
use Rattle.dump_text.proofs.members.push_body.Goals as goal

pub returns : goal.returns
returns c = λ i is.
    let v = c.args.iface.now in let body = body_of v.library.ifaces v.number in
    let resolved : is_some body ≡ true = sym c.resolved.ensures.resolved ∙ c.if-not-resolved.false in
    told_is c.word-5.result _ c.word-5.ensures
    (added refl
    (added c.in_ok-word-3.ensures
    (added c.in_ok-number-3.ensures
    (added c.in_ok-number-2.ensures (added c.in_ok-word-2.ensures (added c.in_ok-number.ensures c.in_ok-word.ensures (ap number c.parent.ensures)) refl) (ap number c.first_slot.ensures.slot))
    (ap number c.end_slot.ensures.slot))
    refl)
    (c.as_slice-2.ensures ∙ c.in_ok-iface_word.ensures ∙ ap iface_word c.flags.ensures)
    ∙ resolved_text v.library v.number body i.body c.args.line.now _ _ _ _ (body_is v i is) resolved refl refl refl refl)
