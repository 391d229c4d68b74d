use Rattle.std.proofs.Common.{List, ap, arith, sym, ◌∙◌}
use Rattle.lib_model.specs.declared.contents.Iface.{Iface}
use Rattle.lib_model.specs.Valid.{body_of}
use Rattle.typelib_faults.specs.Places.{constant_at, constant_end}
use Rattle.typelib_faults.proofs.WalkFacts.{length_values}
use Rattle.descriptor_reader.specs.Views.{constants_in, own_constants_of}
use Rattle.descriptor_reader.proofs.ViewLaws.{library_entries}
use Rattle.descriptor_reader.proofs.iface_views.IfaceView.constants.Goals as goal

pub returns-clause-items : goal.returns-clause-items
returns-clause-items c =
    c.own_constants-constants.ensures.are
    ∙ (ap (λ (ifaces : List Iface). constants_in (body_of ifaces c.self.inside.number)) (sym (library_entries c.self.inside.checked.file.bytes.now)) ∙ ap own_constants_of c.self.view_is)

pub returns-clause-few : goal.returns-clause-few
returns-clause-few c =
    let x = c.self.inside.checked.file.bytes.now in
    let k = c.own_constants-constants.result in
    omega (arith, length_values (constant_at x) (constant_end x) k.from.place k.count)
