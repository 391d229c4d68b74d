-- The block stands behind what was in use, and zeros fill its space.
use Rattle.std.proofs.Common.{◌≡◌, ◌≤◌, ◌+◌, ◌*◌, [], ◌∷◌, ◌++◌, length, take, subst, sym, ap, ◌∙◌, arith, refl}
use Rattle.std.proofs.lemmas.List.{length-take-le}
use Rattle.object_memory.specs.declared.data_block.DataBlock.{DataBlock}
use Rattle.object_memory.specs.declared.layout.TheConstants.{VTABLE_AT, SLOTS, HEAP_LIMIT}
use Rattle.object_memory.specs.Heap.{Data, Holds, with_data}
use Rattle.object_memory.specs.Layout.{space_for, padded, vtable_space}
use Rattle.object_memory.specs.Memory.{MachineView}
use Rattle.object_memory.proofs.Held.{holds-data}
use Rattle.object_memory.proofs.Growth.{well_formed-data, added_memory}
use Rattle.object_memory.proofs.machine.Machine.add_block.Goals as goal

pub invariant_of-self-2 : goal.invariant_of-self-2
invariant_of-self-2 c =
    let f = c.self.inside in let g = c.find_space.new.heap in let xs = c.args.bytes.now in let space = c.in_ok-space.space in let found = c.in_ok-space.ensures.ok in
    let start : c.space_for-start.result ≡ vtable_space f.conv = c.space_for-start.ensures ∙ ap (λ w. space_for (SLOTS * w)) c.word_of.ensures in
    let limited : f.used + space ≤ vtable_space f.conv + HEAP_LIMIT = omega (arith, found.1, start) in
    let block : DataBlock = record { address = VTABLE_AT + f.used; length = length xs } in
    rw (c.copy_in.ensures, c.in_ok-note.ensures.ok) (well_formed-data f.conv f.heap f.used f.blocks.items f.objects.items f.cells f.pushed c.self.invariant g xs space found.2
    (omega (arith, found.0)) (omega (arith, found.0)) limited block refl (omega (arith, found.0)))

pub returns-clause-added : goal.returns-clause-added
returns-clause-added c =
    let f = c.self.inside in let g = c.find_space.new.heap in let xs = c.args.bytes.now in let space = c.in_ok-space.space in let found = c.in_ok-space.ensures.ok in
    let long : f.used ≡ length (take f.used f.heap) = sym (length-take-le f.used f.heap c.self.invariant.spare.fits) in
    let memory : take (f.used + space) c.copy_in.new.self ≡ take f.used f.heap ++ padded xs = added_memory f.heap g c.copy_in.new.self xs f.used space found.2 c.copy_in.ensures found.0 in
    (λ i. record { conv = f.conv; memory = memory i; blocks = (c.in_ok-note.ensures.ok ∙ ap (λ k. f.blocks.items ++ record { address = VTABLE_AT + k; length = length xs } ∷ []) long) i; objects = f.objects.items; cells = take (8 * f.pushed) f.cells; frame = f.frame })
    ∙ ap (λ (m : MachineView). with_data m xs) c.self.view_is

pub returns-clause-holds : goal.returns-clause-holds
returns-clause-holds c = λ heap held.
    subst (λ (m : MachineView). Holds m (heap ++ Data c.args.bytes.now ∷ [])) (sym (returns-clause-added c)) (holds-data c.args.self.now heap c.args.bytes.now held)
