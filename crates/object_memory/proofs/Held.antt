-- A machine goes on holding its heap: when a block is added, and when a data block is written.
use Rattle.std.proofs.Common.{◌≡◌, ℕ, zero, suc, ◌+◌, ◌-◌, ◌<◌, ◌≤◌, Bool, true, false, ◌&&◌, cond, List, [], ◌∷◌, ◌++◌, length, take, drop, replicate, get_or, refl, sym, subst, ap, ◌∙◌, arith, ◌⊎◌, inl, inr, length-append, length-drop, Some}
use Rattle.std.specs.Prelude.{nat_le, slice_range}
use Rattle.std.specs.List.{Any}
use Rattle.std.proofs.lemmas.Grind.{common_steps}
use Rattle.std.proofs.lemmas.List.{append-nil, append_assoc, take-append-le, drop-append-le}
use Rattle.std.proofs.Math.Seq.{take-append-add, drop-append-add}
use Rattle.raw_block.specs.Bytes.{overwritten}
use Rattle.call_model.specs.declared.places.Conv.{Conv}
use Rattle.call_model.specs.Placement.{word_of}
use Rattle.object_memory.specs.declared.data_block.DataBlock.{DataBlock}
use Rattle.object_memory.specs.declared.layout.TheConstants.{VTABLE_AT, SLOTS}
use Rattle.object_memory.specs.Layout.{space_for, padded, slot_words, vtable, vtable_space}
use Rattle.object_memory.specs.Memory.{MachineView, new_machine, InBlock, Inside, InMemory, bytes_at, written}
use Rattle.object_memory.specs.Heap.{Content, Data, Object, content_bytes, space_of, blocks_image, image, heap_at, along, block_shown, object_shown, data_blocks, object_addresses, Holds, content_after, blocks_after, heap_after, bytes_along, heap_bytes, with_data, with_object}
use Rattle.object_memory.proofs.Growth.{length-padded, length-slot_words}
use Rattle.object_memory.proofs.Lists.{length-overwritten}
use Rattle.object_memory.proofs.Access.{bytes_at-memory, written-memory, both_true, both_false}

-- ---- a block more at the end
blocks_image-push : (conv : Conv) (heap : List Content) (c : Content) → blocks_image conv (heap ++ c ∷ []) ≡ blocks_image conv heap ++ padded (content_bytes conv c)
blocks_image-push conv [] c = append-nil (padded (content_bytes conv c))
blocks_image-push conv (b ∷ heap) c =
    ap (λ l. padded (content_bytes conv b) ++ l) (blocks_image-push conv heap c) ∙ sym (append_assoc (padded (content_bytes conv b)) (blocks_image conv heap) (padded (content_bytes conv c)))

image-push : (conv : Conv) (heap : List Content) (c : Content) → image conv (heap ++ c ∷ []) ≡ image conv heap ++ padded (content_bytes conv c)
image-push conv heap c =
    ap (λ l. vtable conv ++ l) (blocks_image-push conv heap c) ∙ sym (append_assoc (vtable conv) (blocks_image conv heap) (padded (content_bytes conv c)))

along-push : {X : Type 0} (shown : ℕ → Content → List X) (conv : Conv) (at : ℕ) (heap : List Content) (c : Content) → along shown conv at (heap ++ c ∷ []) ≡ along shown conv at heap ++ shown (at + length (blocks_image conv heap)) c
along-push shown conv at [] c = let same : at ≡ at + 0 = omega arith in append-nil (shown at c) ∙ ap (λ k. shown k c) same
along-push shown conv at (b ∷ heap) c =
    let ends : at + space_of conv b + length (blocks_image conv heap) ≡ at + length (padded (content_bytes conv b) ++ blocks_image conv heap) = omega (arith, length-append (padded (content_bytes conv b)) (blocks_image conv heap), length-padded (content_bytes conv b)) in
    ap (λ l. shown at b ++ l) (along-push shown conv (at + space_of conv b) heap c ∙ ap (λ k. along shown conv (at + space_of conv b) heap ++ shown k c) ends)
    ∙ sym (append_assoc (shown at b) (along shown conv (at + space_of conv b) heap) (shown (at + length (padded (content_bytes conv b) ++ blocks_image conv heap)) c))

pub length-vtable : (conv : Conv) → length (vtable conv) ≡ vtable_space conv
length-vtable conv = length-padded (slot_words (word_of conv) SLOTS) ∙ ap space_for (length-slot_words (word_of conv) SLOTS)

-- where the heap ends
heap_ends : (m : MachineView) (heap : List Content) → Holds m heap → heap_at m.conv + length (blocks_image m.conv heap) ≡ VTABLE_AT + length m.memory
heap_ends m heap held =
    omega (arith, ap length held.memory, length-append (vtable m.conv) (blocks_image m.conv heap), length-vtable m.conv)

pub holds-new : (conv : Conv) → Holds (new_machine conv) []
holds-new conv = record { memory = sym (append-nil (vtable conv)); blocks = refl; objects = refl }

pub holds-data : (m : MachineView) (heap : List Content) (bytes : List ℕ) → Holds m heap → Holds (with_data m bytes) (heap ++ Data bytes ∷ [])
holds-data m heap bytes held = record {
  memory = ap (λ l. l ++ padded bytes) held.memory ∙ sym (image-push m.conv heap (Data bytes));
  blocks = (λ i. held.blocks i ++ record { address = sym (heap_ends m heap held) i; length = length bytes } ∷ []) ∙ sym (along-push block_shown m.conv (heap_at m.conv) heap (Data bytes));
  objects = held.objects ∙ sym (append-nil (object_addresses m.conv heap)) ∙ sym (along-push object_shown m.conv (heap_at m.conv) heap (Data bytes));
}

pub holds-object : (m : MachineView) (heap : List Content) → Holds m heap → Holds (with_object m) (heap ++ Object (length m.objects) ∷ [])
holds-object m heap held = record {
  memory = ap (λ l. l ++ padded (content_bytes m.conv (Object (length m.objects)))) held.memory ∙ sym (image-push m.conv heap (Object (length m.objects)));
  blocks = held.blocks ∙ sym (append-nil (data_blocks m.conv heap)) ∙ sym (along-push block_shown m.conv (heap_at m.conv) heap (Object (length m.objects)));
  objects = (λ i. held.objects i ++ sym (heap_ends m heap held) i ∷ []) ∙ sym (along-push object_shown m.conv (heap_at m.conv) heap (Object (length m.objects)));
}

-- ---- a write into a data block
overwritten_front : (xs zs : List ℕ) (at : ℕ) (ys : List ℕ) → at + length ys ≤ length xs → overwritten (xs ++ zs) at ys ≡ overwritten xs at ys ++ zs
overwritten_front xs zs at ys within =
    let k = at + length ys in let low : at ≤ length xs = omega (arith, within) in
    (λ i. take-append-le at xs zs low i ++ (ys ++ drop-append-le k xs zs within i))
    ∙ ap (λ l. take at xs ++ l) (sym (append_assoc ys (drop k xs) zs)) ∙ sym (append_assoc (take at xs) (ys ++ drop k xs) zs)

overwritten_back : (xs zs : List ℕ) (at k : ℕ) (ys : List ℕ) → at ≡ length xs + k → overwritten (xs ++ zs) at ys ≡ xs ++ overwritten zs k ys
overwritten_back xs zs at k ys is =
    let end : at + length ys ≡ length xs + (k + length ys) = omega (arith, is) in
    (λ i. (ap (λ j. take j (xs ++ zs)) is ∙ take-append-add xs zs k) i ++ (ys ++ (ap (λ j. drop j (xs ++ zs)) end ∙ drop-append-add xs zs (k + length ys)) i))
    ∙ append_assoc xs (take k zs) (ys ++ drop (k + length ys) zs)

padded_written : (held bytes : List ℕ) (p : ℕ) → p + length bytes ≤ length held → overwritten (padded held) p bytes ≡ padded (overwritten held p bytes)
padded_written held bytes p within =
    overwritten_front held (replicate (space_for (length held) - length held) 0) p bytes within
    ∙ ap (λ n. overwritten held p bytes ++ replicate {A = ℕ} (space_for n - n) 0) (sym (length-overwritten held p bytes within))

-- n bytes lie in this block, which stands at `at`
abbrev IsIn : (at : ℕ) → Content → (a n : ℕ) → Type 0
IsIn at (Data held) a n = (at ≤ a) × (a + n ≤ at + length held)
IsIn at (Object number) a n = ⊥

-- they lie in one data block of the heap
abbrev InHeap : Conv → (at : ℕ) → List Content → (a n : ℕ) → Type 0
InHeap conv at [] a n = ⊥
InHeap conv at (c ∷ heap) a n = IsIn at c a n ⊎ InHeap conv (at + space_of conv c) heap a n

split_at : (P : DataBlock → Type 0) (x : DataBlock) (xs : List DataBlock) (k : ℕ) (y : DataBlock) → k < length (x ∷ xs) → get_or (x ∷ xs) k y ≡ y → P y → P x ⊎ Any P xs
split_at P x xs zero y lt same p = inl (subst P (sym same) p)
split_at P x xs (suc k) y lt same p = let less : k < length xs = omega (arith, lt) in inr (k, y, less, same, p)

in_heap : (conv : Conv) (at : ℕ) (heap : List Content) (a n : ℕ) → Any (InBlock a n) (along block_shown conv at heap) → InHeap conv at heap a n
in_heap conv at [] a n any = absurd (omega (arith, any.2))
in_heap conv at (Data held ∷ heap) a n any =
    elim (split_at (InBlock a n) (record { address = at; length = length held }) (along block_shown conv (at + space_of conv (Data held)) heap) any.0 any.1 any.2 any.3 any.4) as (λ _. InHeap conv at (Data held ∷ heap) a n) [ inl here ↦ inl here | inr later ↦ inr (in_heap conv (at + space_of conv (Data held)) heap a n later) ]
in_heap conv at (Object number ∷ heap) a n any = inr (in_heap conv (at + space_of conv (Object number)) heap a n any)

begins : (conv : Conv) (at : ℕ) (heap : List Content) (a n : ℕ) → InHeap conv at heap a n → at ≤ a
begins conv at [] a n in_it = absurd in_it
begins conv at (Data held ∷ heap) a n (inl here) = here.0
begins conv at (Object number ∷ heap) a n (inl here) = absurd here
begins conv at (c ∷ heap) a n (inr later) = omega (arith, begins conv (at + space_of conv c) heap a n later)

length-le : (bytes : List ℕ) → length bytes ≤ space_for (length bytes)
length-le bytes = omega arith

ends : (conv : Conv) (at : ℕ) (heap : List Content) (a n : ℕ) → InHeap conv at heap a n → a + n ≤ at + length (blocks_image conv heap)
ends conv at [] a n in_it = absurd in_it
ends conv at (Data held ∷ heap) a n (inl here) = omega (arith, here.1, length-append (padded held) (blocks_image conv heap), length-padded held, length-le held)
ends conv at (Object number ∷ heap) a n (inl here) = absurd here
ends conv at (c ∷ heap) a n (inr later) =
    omega (arith, ends conv (at + space_of conv c) heap a n later, length-append (padded (content_bytes conv c)) (blocks_image conv heap), length-padded (content_bytes conv c))

-- a block that ends before the address, or begins after it, stays
passed : (conv : Conv) (at : ℕ) (c : Content) (a : ℕ) (bytes : List ℕ) → 1 ≤ length bytes → at + space_of conv c ≤ a → content_after at c a bytes ≡ c
passed conv at (Data held) a bytes some low = rw (both_false at a (a + length bytes) (at + length held) (λ p q. omega (arith, some, low, q, length-le held))) refl
passed conv at (Object number) a bytes some low = refl

not_reached : (at : ℕ) (c : Content) (a : ℕ) (bytes : List ℕ) → a < at → content_after at c a bytes ≡ c
not_reached at (Data held) a bytes low = rw (both_false at a (a + length bytes) (at + length held) (λ p q. omega (arith, low, p))) refl
not_reached at (Object number) a bytes low = refl

untouched : (conv : Conv) (at : ℕ) (heap : List Content) (a : ℕ) (bytes : List ℕ) → a < at → blocks_after conv at heap a bytes ≡ heap
untouched conv at [] a bytes low = refl
untouched conv at (c ∷ heap) a bytes low =
    let more : a < at + space_of conv c = omega (arith, low) in λ i. not_reached at c a bytes low i ∷ untouched conv (at + space_of conv c) heap a bytes more i

image_written : (conv : Conv) (at : ℕ) (heap : List Content) (a : ℕ) (bytes : List ℕ) → 1 ≤ length bytes → InHeap conv at heap a (length bytes)
    → overwritten (blocks_image conv heap) (a - at) bytes ≡ blocks_image conv (blocks_after conv at heap a bytes)
image_written conv at [] a bytes some in_it = absurd in_it
image_written conv at (Object number ∷ heap) a bytes some (inl here) = absurd here
image_written conv at (Data held ∷ heap) a bytes some (inl here) =
    let rest = blocks_image conv heap in let p = a - at in
    let within : p + length bytes ≤ length held = omega (arith, here.0, here.1) in
    let fits : p + length bytes ≤ length (padded held) = omega (arith, within, length-padded held, length-le held) in
    let before : a < at + space_of conv (Data held) = omega (arith, here.1, some, length-le held) in
    let head : content_after at (Data held) a bytes ≡ Data (overwritten held p bytes) = rw (both_true at a (a + length bytes) (at + length held) here.0 here.1) refl in
    overwritten_front (padded held) rest p bytes fits ∙ ap (λ l. l ++ rest) (padded_written held bytes p within)
    ∙ (λ i. padded (content_bytes conv (sym head i)) ++ blocks_image conv (sym (untouched conv (at + space_of conv (Data held)) heap a bytes before) i))
image_written conv at (c ∷ heap) a bytes some (inr later) =
    let front = padded (content_bytes conv c) in let next = at + space_of conv c in
    let low : next ≤ a = begins conv next heap a (length bytes) later in
    let split : a - at ≡ length front + (a - next) = omega (arith, low, length-padded (content_bytes conv c)) in
    overwritten_back front (blocks_image conv heap) (a - at) (a - next) bytes split ∙ ap (λ l. front ++ l) (image_written conv next heap a bytes some later)
    ∙ (λ i. padded (content_bytes conv (sym (passed conv at c a bytes some low) i)) ++ blocks_image conv (blocks_after conv next heap a bytes))

both_back : (a b c d : ℕ) → (nat_le a b && nat_le c d) ≡ true → (a ≤ b) × (c ≤ d)
both_back a b c d is = (grind (arith, common_steps, is), grind (arith, common_steps, is))

-- a write changes no length
choice_len : (conv : Conv) (b : Bool) (held new : List ℕ) → (b ≡ true → length new ≡ length held) → length (content_bytes conv (cond b (Data new) (Data held))) ≡ length held
choice_len conv true held new same = same refl
choice_len conv false held new same = refl

choice_shown : (at : ℕ) (b : Bool) (held new : List ℕ) → (b ≡ true → length new ≡ length held) → block_shown at (cond b (Data new) (Data held)) ≡ block_shown at (Data held)
choice_shown at true held new same = λ i. record { address = at; length = same refl i } ∷ []
choice_shown at false held new same = refl

choice_objects : (at : ℕ) (b : Bool) (held new : List ℕ) → object_shown at (cond b (Data new) (Data held)) ≡ []
choice_objects at true held new = refl
choice_objects at false held new = refl

written_len : (at : ℕ) (held : List ℕ) (a : ℕ) (bytes : List ℕ) → (nat_le at a && nat_le (a + length bytes) (at + length held)) ≡ true → length (overwritten held (a - at) bytes) ≡ length held
written_len at held a bytes is =
    let here = both_back at a (a + length bytes) (at + length held) is in length-overwritten held (a - at) bytes (omega (arith, here.0, here.1))

same_len : (conv : Conv) (at : ℕ) (c : Content) (a : ℕ) (bytes : List ℕ) → length (content_bytes conv (content_after at c a bytes)) ≡ length (content_bytes conv c)
same_len conv at (Data held) a bytes = choice_len conv (nat_le at a && nat_le (a + length bytes) (at + length held)) held (overwritten held (a - at) bytes) (written_len at held a bytes)
same_len conv at (Object number) a bytes = refl

same_block : (at : ℕ) (c : Content) (a : ℕ) (bytes : List ℕ) → block_shown at (content_after at c a bytes) ≡ block_shown at c
same_block at (Data held) a bytes = choice_shown at (nat_le at a && nat_le (a + length bytes) (at + length held)) held (overwritten held (a - at) bytes) (written_len at held a bytes)
same_block at (Object number) a bytes = refl

same_object : (at : ℕ) (c : Content) (a : ℕ) (bytes : List ℕ) → object_shown at (content_after at c a bytes) ≡ object_shown at c
same_object at (Data held) a bytes = choice_objects at (nat_le at a && nat_le (a + length bytes) (at + length held)) held (overwritten held (a - at) bytes)
same_object at (Object number) a bytes = refl

along-after : {X : Type 0} (shown : ℕ → Content → List X) (conv : Conv) (at : ℕ) (heap : List Content) (a : ℕ) (bytes : List ℕ) → ((k : ℕ) (c : Content) → shown k (content_after k c a bytes) ≡ shown k c)
    → along shown conv at (blocks_after conv at heap a bytes) ≡ along shown conv at heap
along-after shown conv at [] a bytes same = refl
along-after shown conv at (c ∷ heap) a bytes same =
    (λ i. same at c i ++ along shown conv (at + space_for (same_len conv at c a bytes i)) (blocks_after conv (at + space_of conv c) heap a bytes))
    ∙ ap (λ l. shown at c ++ l) (along-after shown conv (at + space_of conv c) heap a bytes same)

-- what lies in a data block lies in the memory
pub inside-memory : (m : MachineView) (heap : List Content) (a n : ℕ) → Inside m.blocks a n → Holds m heap → InMemory m a n
inside-memory m heap a n inside held =
    let start = heap_at m.conv in
    let here : InHeap m.conv start heap a n = in_heap m.conv start heap a n (subst (λ l. Any (InBlock a n) l) held.blocks inside.1) in
    (omega (arith, begins m.conv start heap a n here), omega (arith, ends m.conv start heap a n here, heap_ends m heap held))

pub holds-written : (m : MachineView) (heap : List Content) (a : ℕ) (bytes : List ℕ) → Inside m.blocks a (length bytes) → Holds m heap → Holds (written m a bytes) (heap_after m.conv heap a bytes)
holds-written m heap a bytes inside held =
    let n = length bytes in let start = heap_at m.conv in
    let here : InHeap m.conv start heap a n = in_heap m.conv start heap a n (subst (λ l. Any (InBlock a n) l) held.blocks inside.1) in
    let low : start ≤ a = begins m.conv start heap a n here in
    let memory = inside-memory m heap a n inside held in
    let split : a - VTABLE_AT ≡ length (vtable m.conv) + (a - start) = omega (arith, low, length-vtable m.conv) in
    let bytes_are : overwritten m.memory (a - VTABLE_AT) bytes ≡ image m.conv (heap_after m.conv heap a bytes) = ap (λ l. overwritten l (a - VTABLE_AT) bytes) held.memory
    ∙ overwritten_back (vtable m.conv) (blocks_image m.conv heap) (a - VTABLE_AT) (a - start) bytes split
    ∙ ap (λ l. vtable m.conv ++ l) (image_written m.conv start heap a bytes inside.0 here) in
    subst (λ (k : MachineView). Holds k (heap_after m.conv heap a bytes)) (sym (written-memory m a bytes memory)) (record {
      memory = bytes_are;
      blocks = held.blocks ∙ sym (along-after block_shown m.conv start heap a bytes (λ k c. same_block k c a bytes));
      objects = held.objects ∙ sym (along-after object_shown m.conv start heap a bytes (λ k c. same_object k c a bytes));
    })

-- ---- what a data block is read as
slice_front : (xs zs : List ℕ) (i j : ℕ) → i ≤ j → j ≤ length xs → slice_range (xs ++ zs) i j ≡ slice_range xs i j
slice_front xs zs i j le within =
    let low : i ≤ length xs = omega (arith, le, within) in let short : j - i ≤ length (drop i xs) = omega (arith, within, length-drop i xs) in
    ap (λ l. take (j - i) l) (drop-append-le i xs zs low) ∙ take-append-le (j - i) (drop i xs) zs short

slice_back : (xs zs : List ℕ) (i k n : ℕ) → i ≡ length xs + k → slice_range (xs ++ zs) i (i + n) ≡ slice_range zs k (k + n)
slice_back xs zs i k n is =
    let count : i + n - i ≡ k + n - k = omega arith in
    (λ j. take (count j) ((ap (λ q. drop q (xs ++ zs)) is ∙ drop-append-add xs zs k) j))

slice_along : (conv : Conv) (at : ℕ) (heap : List Content) (a n : ℕ) → 1 ≤ n → InHeap conv at heap a n → Some (slice_range (blocks_image conv heap) (a - at) (a - at + n)) ≡ bytes_along conv at heap a n
slice_along conv at [] a n some in_it = absurd in_it
slice_along conv at (Object number ∷ heap) a n some (inl here) = absurd here
slice_along conv at (Data held ∷ heap) a n some (inl here) =
    let p = a - at in let up : p ≤ p + n = omega arith in
    let within : p + n ≤ length held = omega (arith, here.0, here.1) in let fits : p + n ≤ length (padded held) = omega (arith, within, length-padded held, length-le held) in
    let head : bytes_along conv at (Data held ∷ heap) a n ≡ Some (slice_range held p (p + n)) = rw (both_true at a (a + n) (at + length held) here.0 here.1) refl in
    ap Some (slice_front (padded held) (blocks_image conv heap) p (p + n) up fits ∙ slice_front held (replicate (space_for (length held) - length held) 0) p (p + n) up within) ∙ sym head
slice_along conv at (Data held ∷ heap) a n some (inr later) =
    let next = at + space_of conv (Data held) in let low : next ≤ a = begins conv next heap a n later in
    let split : a - at ≡ length (padded held) + (a - next) = omega (arith, low, length-padded held) in
    let head : bytes_along conv at (Data held ∷ heap) a n ≡ bytes_along conv next heap a n = rw (both_false at a (a + n) (at + length held) (λ p q. omega (arith, some, low, q, length-le held))) refl in
    ap Some (slice_back (padded held) (blocks_image conv heap) (a - at) (a - next) n split) ∙ slice_along conv next heap a n some later ∙ sym head
slice_along conv at (Object number ∷ heap) a n some (inr later) =
    let bytes = content_bytes conv (Object number) in let next = at + space_of conv (Object number) in let low : next ≤ a = begins conv next heap a n later in
    let split : a - at ≡ length (padded bytes) + (a - next) = omega (arith, low, length-padded bytes) in
    ap Some (slice_back (padded bytes) (blocks_image conv heap) (a - at) (a - next) n split) ∙ slice_along conv next heap a n some later

pub holds-bytes : (m : MachineView) (heap : List Content) (a n : ℕ) → Inside m.blocks a n → Holds m heap → bytes_at m a n ≡ heap_bytes m.conv heap a n
holds-bytes m heap a n inside held =
    let start = heap_at m.conv in
    let here : InHeap m.conv start heap a n = in_heap m.conv start heap a n (subst (λ l. Any (InBlock a n) l) held.blocks inside.1) in
    let low : start ≤ a = begins m.conv start heap a n here in
    let memory = inside-memory m heap a n inside held in
    let split : a - VTABLE_AT ≡ length (vtable m.conv) + (a - start) = omega (arith, low, length-vtable m.conv) in
    bytes_at-memory m a n memory
    ∙ ap Some (ap (λ l. slice_range l (a - VTABLE_AT) (a - VTABLE_AT + n)) held.memory ∙ slice_back (vtable m.conv) (blocks_image m.conv heap) (a - VTABLE_AT) (a - start) n split)
    ∙ slice_along m.conv start heap a n inside.0 here
