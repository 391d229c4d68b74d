use Rattle.std.proofs.Common.{List, ◌-◌, ap, arith, sym, ◌∙◌}
use Rattle.std.specs.Prelude.{slice_get}
use Rattle.lib_model.specs.declared.contents.Method.{Method}
use Rattle.typelib_faults.specs.Places.{entries_of}
use Rattle.descriptor_reader.proofs.SearchLaws.{own_is, seeking_ends, seeking_found, seeking_on, seeking_over, seeking_split, slot_past}
use Rattle.descriptor_reader.proofs.ViewLaws.{directory_known}
use Rattle.descriptor_reader.proofs.members.method_in_slot.Goals as goal

pub returns-then-slot-end-clause-method : goal.returns-then-slot-end-clause-method
returns-then-slot-end-clause-method c =
    sym (slot_past (entries_of c.args.checked.now.file.bytes.now) 250 c.args.number c.args.slot (omega (arith, c.end_of_slots-end.ensures)))

pub returns-then-at-eq0-clause-method : goal.returns-then-at-eq0-clause-method
returns-then-at-eq0-clause-method c = absurd (seeking_ends c.loop.invariant c.if-at-eq0.true)

pub overflow_sub-end : goal.overflow_sub-end
overflow_sub-end c =
    let x = c.args.checked.now.file.bytes.now in
    let m = c.own_methods-methods in
    let own = own_is x m.result.from.place m.result.count (entries_of x) c.loop.at m.ensures.are in
    omega (arith, seeking_split m.result.count c.loop.invariant (omega arith) c.if-at-eq0.false own)

pub method_by_number-requires-clause-low : goal.method_by_number-requires-clause-low
method_by_number-requires-clause-low c =
    let x = c.args.checked.now.file.bytes.now in
    let m = c.own_methods-methods in
    let own = own_is x m.result.from.place m.result.count (entries_of x) c.loop.at m.ensures.are in
    omega (arith, seeking_split m.result.count c.loop.invariant (omega arith) c.if-at-eq0.false own, c.loop.invariant.before)

pub returns-then-slot-end-2-clause-method : goal.returns-then-slot-end-2-clause-method
returns-then-slot-end-2-clause-method c =
    let x = c.args.checked.now.file.bytes.now in
    let m = c.own_methods-methods in
    let own = own_is x m.result.from.place m.result.count (entries_of x) c.loop.at m.ensures.are in
    sym (seeking_found m.result.count c.loop.invariant (omega arith) c.if-at-eq0.false own (omega arith) ∙ (ap (λ (ms : List Method). slice_get ms (c.args.slot - (c.loop.end - m.result.count))) (sym m.ensures.are) ∙ c.method_by_number.ensures.method))

pub links-at-requires-clause-fine : goal.links-at-requires-clause-fine
links-at-requires-clause-fine c = directory_known c.args.checked.now.file.bytes.now c.args.checked.now.is_fine

pub loop-preserved : goal.loop-preserved
loop-preserved c =
    let x = c.args.checked.now.file.bytes.now in
    let m = c.own_methods-methods in
    let own = own_is x m.result.from.place m.result.count (entries_of x) c.loop.at m.ensures.are in
    seeking_on c.links-at.result.0 m.result.count c.loop.invariant (omega arith) c.if-at-eq0.false c.links-at.ensures.parent own c.links-at.ensures.within (omega arith)

pub returns-clause-method : goal.returns-clause-method
returns-clause-method c = absurd (seeking_over c.loop.invariant (omega arith))
