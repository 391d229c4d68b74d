use Rattle.std.proofs.Common.{◌≡◌, ◌++◌, refl, sym, ap, ◌∙◌}
use Rattle.uuid.specs.Text.{hyphenated_text, lower}
use Rattle.lib_model.specs.declared.contents.Iface.{Iface}
use Rattle.dump_text.specs.Lines.{spaced}
use Rattle.dump_text.specs.Listing.{body_words, iface_line}
use Rattle.dump_text.specs.Words.{number}
use Rattle.dump_text.proofs.LineLaws.{made_is}
use Rattle.dump_text.proofs.MemberLaws.{added, field_is, iface_line_is}
use Rattle.dump_text.proofs.members.iface_line.Goals as goal

pub returns : goal.returns
returns c = λ i is.
    let v = c.args.iface.now in
    let spelled : c.as_bytes.result.now ≡ hyphenated_text lower c.iid.result = cc in
    made_is c.ended.result _ _ c.ended.ensures
    (iface_line_is v.library v.number i c.name.result.now c.iid.result _
    (field_is (λ (i : Iface). i.name) _ i _ is c.name.ensures)
    (field_is (λ (i : Iface). i.iid) _ i _ is c.iid.ensures)
    (c.in_ok-push_body.ensures i is
    ∙ ap (λ text. text ++ spaced (body_words v.library v.number i.body))
    (added c.in_ok-word.ensures (added c.in_ok-name.ensures (added c.in_ok-number.ensures c.in_ok-line.ensures (ap number c.requires)) refl) spelled))
    ∙ ap (λ k. iface_line v.library k i) (sym c.requires))
