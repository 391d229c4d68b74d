use Rattle.std.proofs.Common.{ap, arith, ◌∙◌}
use Rattle.call_model.specs.Tables.{first_slot}
use Rattle.lib_model.specs.Table.{table_of}
use Rattle.descriptor_reader.specs.Views.{IfaceOf}
use Rattle.descriptor_reader.proofs.ViewLaws.{directory_known, first_slot_is, slots_any}
use Rattle.descriptor_reader.proofs.iface_views.IfaceView.first_slot.Goals as goal

pub links-parent-requires-clause-fine : goal.links-parent-requires-clause-fine
links-parent-requires-clause-fine c = directory_known c.self.inside.checked.file.bytes.now c.self.inside.checked.is_fine

pub returns-clause-slot : goal.returns-clause-slot
returns-clause-slot c =
    c.end_of_slots.ensures
    ∙ (first_slot_is c.self.inside.checked.file.bytes.now c.self.inside.number c.links-parent.result.0 c.links-parent.ensures.parent ∙ ap (λ (v : IfaceOf). first_slot (table_of v.library) v.number) c.self.view_is)

pub returns-clause-few : goal.returns-clause-few
returns-clause-few c =
    let f = c.self.inside.checked.file in
    omega (arith, c.end_of_slots.ensures, (slots_any f.bytes.now c.links-parent.result.0 c.self.inside.checked.is_fine (omega (arith, f.count_is, c.links-parent.ensures.within))).1)
