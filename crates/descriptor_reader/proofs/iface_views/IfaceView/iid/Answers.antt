use Rattle.std.proofs.Common.{Some, ap, arith, sym, ◌∙◌}
use Rattle.std.specs.Prelude.{option_map}
use Rattle.lib_model.specs.declared.contents.Iface.{Iface}
use Rattle.descriptor_reader.specs.Views.{IfaceOf, iface_of}
use Rattle.descriptor_reader.proofs.ViewLaws.{iid_is}
use Rattle.descriptor_reader.proofs.iface_views.IfaceView.iid.Goals as goal

pub returns : goal.returns
returns c =
    let f = c.self.inside.checked.file in
    ap (λ (v : IfaceOf). option_map (λ (i : Iface). i.iid) (iface_of v)) (sym c.self.view_is)
    ∙ (iid_is f.bytes.now f.directory c.self.inside.number c.place_of_entry-entry.result f.directory_is c.self.invariant.0 (omega (arith, f.count_is, c.self.invariant.1)) c.place_of_entry-entry.ensures ∙ ap Some (sym c.sixteen.ensures))
