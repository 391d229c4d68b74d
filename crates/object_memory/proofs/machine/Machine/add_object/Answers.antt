-- The two words stand behind what was in use, and zeros fill their space.
use Rattle.std.proofs.Common.{◌≡◌, ◌≤◌, ◌+◌, ◌*◌, [], ◌∷◌, ◌++◌, length, take, subst, sym, ap, ◌∙◌, arith, refl}
use Rattle.std.proofs.lemmas.List.{length-take-le}
use Rattle.object_memory.specs.declared.layout.TheConstants.{VTABLE_AT, SLOTS, HEAP_LIMIT}
use Rattle.object_memory.specs.Heap.{Holds, Object, content_bytes, with_object}
use Rattle.object_memory.specs.Layout.{space_for, padded, vtable_space}
use Rattle.object_memory.specs.Memory.{MachineView}
use Rattle.object_memory.proofs.Held.{holds-object}
use Rattle.object_memory.proofs.Growth.{well_formed-object, added_memory, object_len, two_words}
use Rattle.object_memory.proofs.machine.Machine.add_object.Goals as goal

pub invariant_of-self-2 : goal.invariant_of-self-2
invariant_of-self-2 c =
    let f = c.self.inside in let g = c.find_space.new.heap in let space = c.in_ok-space.space in let found = c.in_ok-space.ensures.ok in let word = c.word_of-word.result in let number = c.len-number.result in
    let xs = content_bytes f.conv (Object number) in
    let count : length xs ≡ 2 * word = object_len f.conv word number c.word_of-word.ensures in
    let start : c.space_for-start.result ≡ vtable_space f.conv = c.space_for-start.ensures ∙ ap (λ w. space_for (SLOTS * w)) c.word_of-word.ensures in
    let limited : f.used + space ≤ vtable_space f.conv + HEAP_LIMIT = omega (arith, found.1, start) in
    let room : f.used + 2 * word ≤ length g = omega (arith, found.0, found.2.enough) in
    let made = two_words f.conv word number c.word_of-word.ensures g c.put_low_bytes.new.block c.put_low_bytes-2.new.block f.used c.put_low_bytes.ensures.written c.put_low_bytes-2.ensures.written room in
    rw (made, c.in_ok-note.ensures.ok) (well_formed-object f.conv f.heap f.used f.blocks.items f.objects.items f.cells f.pushed c.self.invariant g xs space found.2
    (omega (arith, found.0, count)) (omega (arith, found.0)) limited (VTABLE_AT + f.used) refl)

pub returns-clause-added : goal.returns-clause-added
returns-clause-added c =
    let f = c.self.inside in let g = c.find_space.new.heap in let space = c.in_ok-space.space in let found = c.in_ok-space.ensures.ok in let word = c.word_of-word.result in let number = c.len-number.result in
    let xs = content_bytes f.conv (Object number) in let new = c.put_low_bytes-2.new.block in
    let count : length xs ≡ 2 * word = object_len f.conv word number c.word_of-word.ensures in
    let room : f.used + 2 * word ≤ length g = omega (arith, found.0, found.2.enough) in
    let made = two_words f.conv word number c.word_of-word.ensures g c.put_low_bytes.new.block new f.used c.put_low_bytes.ensures.written c.put_low_bytes-2.ensures.written room in
    let long : f.used ≡ length (take f.used f.heap) = sym (length-take-le f.used f.heap c.self.invariant.spare.fits) in
    let counted : number ≡ length f.objects.items = omega (arith, c.len-number.ensures, f.objects.ok) in
    let size : space ≡ space_for (length xs) = found.0 ∙ ap space_for (sym count) in
    let memory : take (f.used + space) new ≡ take f.used f.heap ++ padded xs = added_memory f.heap g new xs f.used space found.2 made size in
    (λ i. record { conv = f.conv; memory = (memory ∙ ap (λ k. take f.used f.heap ++ padded (content_bytes f.conv (Object k))) counted) i; blocks = f.blocks.items; objects = (c.in_ok-note.ensures.ok ∙ ap (λ k. f.objects.items ++ (VTABLE_AT + k) ∷ []) long) i; cells = take (8 * f.pushed) f.cells; frame = f.frame })
    ∙ ap (λ (m : MachineView). with_object m) c.self.view_is

pub returns-clause-holds : goal.returns-clause-holds
returns-clause-holds c = λ heap held.
    subst (λ (m : MachineView). Holds m (heap ++ Object (length c.args.self.now.objects) ∷ [])) (sym (returns-clause-added c)) (holds-object c.args.self.now heap held)
