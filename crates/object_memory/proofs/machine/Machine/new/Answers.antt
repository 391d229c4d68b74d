-- The heap is the vtable, all of it in use.
use Rattle.std.proofs.Common.{◌≡◌, ◌≤◌, [], length, subst, sym, ap, ◌∙◌, arith}
use Rattle.std.proofs.lemmas.List.{take_all}
use Rattle.object_memory.specs.declared.layout.TheConstants.{SLOTS}
use Rattle.object_memory.specs.Layout.{padded, slot_words, vtable}
use Rattle.object_memory.specs.Memory.{MachineView}
use Rattle.object_memory.specs.Heap.{Holds}
use Rattle.object_memory.proofs.Held.{holds-new}
use Rattle.object_memory.proofs.Growth.{well_formed-new}
use Rattle.object_memory.proofs.machine.Machine.new.Goals as goal

pub invariant_of-result : goal.invariant_of-result
invariant_of-result c =
    let whole : c.in_ok-heap.heap ≡ vtable c.args.conv = c.in_ok-heap.ensures ∙ ap (λ w. padded (slot_words w SLOTS)) c.word_of.ensures in
    rw (c.new-2.ensures.items, c.new-3.ensures.items) (well_formed-new c.args.conv c.in_ok-heap.heap c.len.result c.in_ok-cells.cells whole c.len.ensures c.in_ok-cells.ensures)

pub returns-clause-fresh : goal.returns-clause-fresh
returns-clause-fresh c =
    let whole : c.in_ok-heap.heap ≡ vtable c.args.conv = c.in_ok-heap.ensures ∙ ap (λ w. padded (slot_words w SLOTS)) c.word_of.ensures in
    let all : length c.in_ok-heap.heap ≤ c.len.result = omega (arith, c.len.ensures) in
    λ i. record { conv = c.args.conv; memory = (take_all c.len.result c.in_ok-heap.heap all ∙ whole) i; blocks = c.new-2.ensures.items i; objects = c.new-3.ensures.items i; cells = []; frame = c.in_ok-frame.ensures i }

pub returns-clause-holds : goal.returns-clause-holds
returns-clause-holds c = subst (λ (m : MachineView). Holds m []) (sym (returns-clause-fresh c)) (holds-new c.args.conv)
