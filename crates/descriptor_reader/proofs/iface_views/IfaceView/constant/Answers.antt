use Rattle.std.proofs.Common.{List, ap, sym, ◌∙◌}
use Rattle.std.specs.Prelude.{slice_get}
use Rattle.lib_model.specs.declared.contents.Constant.{Constant}
use Rattle.lib_model.specs.declared.contents.Iface.{Iface}
use Rattle.lib_model.specs.Valid.{body_of}
use Rattle.descriptor_reader.specs.Views.{constants_in, own_constants_of}
use Rattle.descriptor_reader.proofs.ViewLaws.{library_entries}
use Rattle.descriptor_reader.proofs.iface_views.IfaceView.constant.Goals as goal

pub returns-in-Some : goal.returns-in-Some
returns-in-Some c =
    let x = c.self.inside.checked.file.bytes.now in
    let all = c.own_constants-constants.ensures.are ∙ (ap (λ (ifaces : List Iface). constants_in (body_of ifaces c.self.inside.number)) (sym (library_entries x)) ∙ ap own_constants_of c.self.view_is) in
    c.in-Some.ensures.constant ∙ ap (λ (ks : List Constant). slice_get ks c.args.i) all

pub returns-in-None : goal.returns-in-None
returns-in-None c =
    let x = c.self.inside.checked.file.bytes.now in
    let all = c.own_constants-constants.ensures.are ∙ (ap (λ (ifaces : List Iface). constants_in (body_of ifaces c.self.inside.number)) (sym (library_entries x)) ∙ ap own_constants_of c.self.view_is) in
    c.in-None.ensures.constant ∙ ap (λ (ks : List Constant). slice_get ks c.args.i) all
