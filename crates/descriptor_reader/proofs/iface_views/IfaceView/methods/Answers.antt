use Rattle.std.proofs.Common.{List, ap, arith, sym, ◌∙◌, ℕ}
use Rattle.call_model.specs.Tables.{first_slot}
use Rattle.lib_model.specs.declared.contents.Iface.{Iface}
use Rattle.lib_model.specs.Table.{methods_in, table_of}
use Rattle.lib_model.specs.Valid.{body_of}
use Rattle.typelib_faults.specs.Places.{entries_of, library_of, method_at, method_end}
use Rattle.typelib_faults.specs.Walk.{values}
use Rattle.typelib_faults.proofs.WalkFacts.{length_values}
use Rattle.descriptor_reader.specs.Views.{IfaceOf, in_slots}
use Rattle.descriptor_reader.proofs.SearchLaws.{own_is}
use Rattle.descriptor_reader.proofs.ViewLaws.{in_slots_length, library_entries, own_few}
use Rattle.descriptor_reader.proofs.iface_views.IfaceView.methods.Goals as goal

pub invariant_of-result : goal.invariant_of-result
invariant_of-result c =
    let f = c.self.inside.checked in
    let x = f.file.bytes.now in
    let m = c.own_methods-methods in
    let own = own_is x m.result.from.place m.result.count (entries_of x) c.self.inside.number m.ensures.are in
    (m.ensures.fine, omega (arith, own, own_few x c.self.inside.number f.is_fine c.self.invariant.0 (omega (arith, f.file.count_is, c.self.invariant.1)), c.first_slot.ensures.few))

pub returns-clause-items : goal.returns-clause-items
returns-clause-items c =
    let x = c.self.inside.checked.file.bytes.now in
    let m = c.own_methods-methods in
    let first = first_slot (table_of c.args.self.now.library) c.args.self.now.number in
    let own = m.ensures.are ∙ ap (λ (ifaces : List Iface). methods_in (body_of ifaces c.self.inside.number)) (sym (library_entries x)) in
    ap (λ (s : ℕ). in_slots (library_of x) s (values (method_at x) (method_end x) m.result.from.place m.result.count)) c.first_slot.ensures.slot
    ∙ (ap (in_slots (library_of x) first) own ∙ ap (λ (v : IfaceOf). in_slots v.library first (methods_in (body_of v.library.ifaces v.number))) c.self.view_is)

pub returns-clause-few : goal.returns-clause-few
returns-clause-few c =
    let f = c.self.inside.checked in
    let x = f.file.bytes.now in
    let m = c.own_methods-methods in
    let own = own_is x m.result.from.place m.result.count (entries_of x) c.self.inside.number m.ensures.are in
    omega (
      arith,
      own,
      own_few x c.self.inside.number f.is_fine c.self.invariant.0 (omega (arith, f.file.count_is, c.self.invariant.1)),
      in_slots_length (library_of x) c.first_slot.result (values (method_at x) (method_end x) m.result.from.place m.result.count),
      length_values (method_at x) (method_end x) m.result.from.place m.result.count,
    )
