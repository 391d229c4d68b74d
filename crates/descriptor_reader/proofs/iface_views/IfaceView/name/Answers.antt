use Rattle.std.proofs.Common.{Some, ap, arith, sym, ◌∙◌}
use Rattle.descriptor_reader.specs.Views.{IfaceOf, iface_of}
use Rattle.std.specs.Prelude.{option_map}
use Rattle.lib_model.specs.declared.contents.Iface.{Iface}
use Rattle.descriptor_reader.proofs.ViewLaws.{name_is, name_known}
use Rattle.descriptor_reader.proofs.iface_views.IfaceView.name.Goals as goal

pub known_name-requires-clause-fine : goal.known_name-requires-clause-fine
known_name-requires-clause-fine c =
    let f = c.self.inside.checked.file in
    name_known f.bytes.now f.directory c.self.inside.number c.place_of_entry-entry.result c.self.inside.checked.is_fine f.directory_is c.self.invariant.0 (omega (arith, f.count_is, c.self.invariant.1)) c.place_of_entry-entry.ensures

pub returns : goal.returns
returns c =
    let f = c.self.inside.checked.file in
    ap (λ (v : IfaceOf). option_map (λ (i : Iface). i.name) (iface_of v)) (sym c.self.view_is)
    ∙ (name_is f.bytes.now f.directory c.self.inside.number c.place_of_entry-entry.result f.directory_is c.self.invariant.0 (omega (arith, f.count_is, c.self.invariant.1)) c.place_of_entry-entry.ensures ∙ ap Some (sym c.known_name.ensures))
