use Rattle.std.proofs.Common.{List, ap, sym, ◌∙◌}
use Rattle.lib_model.specs.declared.contents.Iface.{Iface}
use Rattle.lib_model.specs.Valid.{body_of}
use Rattle.descriptor_reader.specs.Views.{IfaceOf, flags_in}
use Rattle.descriptor_reader.proofs.ViewLaws.{library_entries}
use Rattle.descriptor_reader.proofs.iface_views.IfaceView.flags.Goals as goal

pub returns-in-Some : goal.returns-in-Some
returns-in-Some c =
    c.rest_of_descriptor.ensures.flags
    ∙ (ap flags_in c.in-Some.ensures.body
    ∙ (ap (λ (ifaces : List Iface). flags_in (body_of ifaces c.self.inside.number)) (sym (library_entries c.self.inside.checked.file.bytes.now)) ∙ ap (λ (v : IfaceOf). flags_in (body_of v.library.ifaces v.number)) c.self.view_is))

pub returns-in-None : goal.returns-in-None
returns-in-None c =
    ap flags_in c.in-None.ensures.body
    ∙ (ap (λ (ifaces : List Iface). flags_in (body_of ifaces c.self.inside.number)) (sym (library_entries c.self.inside.checked.file.bytes.now)) ∙ ap (λ (v : IfaceOf). flags_in (body_of v.library.ifaces v.number)) c.self.view_is)
