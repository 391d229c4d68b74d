use Rattle.std.proofs.Common.{ap, arith, ◌∙◌}
use Rattle.call_model.specs.Tables.{end_slot}
use Rattle.lib_model.specs.Table.{table_of}
use Rattle.descriptor_reader.specs.Views.{IfaceOf}
use Rattle.descriptor_reader.proofs.ViewLaws.{end_slot_is, slots_known}
use Rattle.descriptor_reader.proofs.iface_views.IfaceView.end_slot.Goals as goal

pub returns-clause-slot : goal.returns-clause-slot
returns-clause-slot c =
    c.end_of_slots.ensures
    ∙ (end_slot_is c.self.inside.checked.file.bytes.now c.self.inside.number ∙ ap (λ (v : IfaceOf). end_slot (table_of v.library) v.number) c.self.view_is)

pub returns-clause-few : goal.returns-clause-few
returns-clause-few c =
    let f = c.self.inside.checked.file in
    omega (arith, c.end_of_slots.ensures, (slots_known f.bytes.now c.self.inside.number c.self.inside.checked.is_fine c.self.invariant.0 (omega (arith, f.count_is, c.self.invariant.1))).1)
