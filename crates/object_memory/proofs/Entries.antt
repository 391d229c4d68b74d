-- An object leads to the entries of the vtable: its first word is the vtable's address, where the words of the slots are.
use Rattle.std.proofs.Common.{◌≡◌, ℕ, zero, suc, ◌+◌, ◌-◌, ◌*◌, ◌%◌, ◌^◌, ◌<◌, List, [], ◌∷◌, ◌++◌, length, take, replicate, get_or, refl, sym, subst, ap, ◌∙◌, arith, ◌⊎◌, inl, inr, length-append, Some}
use Rattle.std.specs.Prelude.{option_and_then, slice_range}
use Rattle.std.specs.List.{Contains}
use Rattle.std.specs.Option.{option_map}
use Rattle.std.proofs.lemmas.Grind.{common_steps}
use Rattle.std.proofs.lemmas.List.{append-nil, append_assoc, take_at, drop_at}
use Rattle.std.proofs.Math.Nat.{mod-eq_of_lt}
use Rattle.call_model.specs.declared.places.Conv.{Conv}
use Rattle.call_model.specs.declared.places.Conv.TheVariants.{SysV64, I386, Aapcs64, Ms64, Aapcs32}
use Rattle.call_model.specs.Placement.{word_of}
use Rattle.object_memory.specs.declared.layout.TheConstants.{VTABLE_AT, SLOTS}
use Rattle.xp_base.specs.LittleEndian.{low_bytes, number_of}
use Rattle.object_memory.specs.Layout.{space_for, padded, entry_of, slot_words, vtable}
use Rattle.object_memory.specs.Memory.{MachineView, InMemory, word_at, entry_at}
use Rattle.object_memory.specs.Heap.{Content, Data, Object, content_bytes, space_of, blocks_image, heap_at, along, object_shown, Holds}
use Rattle.object_memory.proofs.Access.{bytes_at-memory}
use Rattle.xp_base.proofs.LittleEndian.{length-low_bytes, number_of-low_bytes}
use Rattle.object_memory.proofs.Growth.{length-padded, length-slot_words}
use Rattle.object_memory.proofs.Held.{length-vtable}

-- a word has room for a number of four bytes
word_has : (conv : Conv) (v : ℕ) → v < 2 ^ 32 → v % 2 ^ (8 * word_of conv) ≡ v
word_has SysV64 v small = mod-eq_of_lt (omega (arith, small))
word_has I386 v small = mod-eq_of_lt (omega (arith, small))
word_has Aapcs64 v small = mod-eq_of_lt (omega (arith, small))
word_has Ms64 v small = mod-eq_of_lt (omega (arith, small))
word_has Aapcs32 v small = mod-eq_of_lt (omega (arith, small))

-- a word among the bytes of vtable and heap is read
word_read : (m : MachineView) (front back : List ℕ) (v at : ℕ) → m.memory ≡ front ++ (low_bytes (word_of m.conv) v ++ back) → at ≡ VTABLE_AT + length front → v < 2 ^ 32 → word_at m at ≡ Some v
word_read m front back v at is place small =
    let n = word_of m.conv in
    let bytes = low_bytes n v in
    let long : length bytes ≡ n = length-low_bytes n v in
    let len : length m.memory ≡ length front + (n + length back) = ap length is ∙ length-append front (bytes ++ back) ∙ ap (λ k. length front + k) (length-append bytes back ∙ ap (λ k. k + length back) long) in
    let inside : InMemory m at n = (omega (arith, place), omega (arith, place, len)) in
    let start : at - VTABLE_AT ≡ length front = omega (arith, place) in
    let count : length front + n - length front ≡ n = omega arith in
    let found : slice_range m.memory (at - VTABLE_AT) (at - VTABLE_AT + n) ≡ bytes
    = (λ i. slice_range (is i) (start i) (start i + n))
    ∙ ap (λ l. take (length front + n - length front) l) (drop_at front (bytes ++ back) (length front) refl)
    ∙ ap (λ k. take k (bytes ++ back)) count
    ∙ take_at bytes back n long in
    ap (option_map number_of) (bytes_at-memory m at n inside ∙ ap Some found) ∙ ap Some (number_of-low_bytes n v ∙ word_has m.conv v small)

below_or_last : (k n : ℕ) → k < suc n → (k < n) ⊎ (k ≡ n)
below_or_last k n lt = grind (arith, common_steps)

-- the word of a slot stands after the words of those before it
slot_in : (word n slot : ℕ) → slot < n → (back : List ℕ) × (slot_words word n ≡ slot_words word slot ++ (low_bytes word (entry_of slot) ++ back))
unfolding slot_words
slot_in word zero slot lt = absurd (omega (arith, lt))
slot_in word (suc n) slot lt =
    let own = low_bytes word (entry_of slot) in let last = low_bytes word (entry_of n) in
    elim (below_or_last slot n lt) as (λ _. (back : List ℕ) × (slot_words word n ++ low_bytes word (entry_of n) ≡ slot_words word slot ++ (low_bytes word (entry_of slot) ++ back))) [
      | inl less ↦ let rest = slot_in word n slot less in
          (rest.0 ++ last, ap (λ l. l ++ last) rest.1 ∙ append_assoc (slot_words word slot) (own ++ rest.0) last ∙ ap (λ l. slot_words word slot ++ l) (append_assoc own rest.0 last))
      | inr same ↦ subst (λ k. (back : List ℕ) × (slot_words word n ++ low_bytes word (entry_of n) ≡ slot_words word k ++ (low_bytes word (entry_of k) ++ back))) (sym same)
          ([], ap (λ l. slot_words word n ++ l) (sym (append-nil last)))
    ]

-- the blocks of a heap, the first of which stands at `at`, have the vtable's address at this address
abbrev LeadsToTable : Conv → (at : ℕ) → List Content → (this : ℕ) → Type 0
LeadsToTable conv at heap this =
    (front : List ℕ) × (back : List ℕ) × (blocks_image conv heap ≡ front ++ (low_bytes (word_of conv) VTABLE_AT ++ back)) × (this ≡ at + length front)

behind : (conv : Conv) (at : ℕ) (c : Content) (heap : List Content) (this : ℕ) → LeadsToTable conv (at + space_of conv c) heap this → LeadsToTable conv at (c ∷ heap) this
behind conv at c heap this found =
    let block = padded (content_bytes conv c) in (
      block ++ found.0,
      found.1,
      ap (λ l. block ++ l) found.2 ∙ sym (append_assoc block found.0 (low_bytes (word_of conv) VTABLE_AT ++ found.1)),
      omega (arith, found.3, length-append block found.0, length-padded (content_bytes conv c)),
    )

first_or_later : (y : ℕ) (xs : List ℕ) (x k : ℕ) → k < length (y ∷ xs) → get_or (y ∷ xs) k x ≡ x → (y ≡ x) ⊎ Contains xs x
first_or_later y xs x zero lt is = inl is
first_or_later y xs x (suc k) lt is = inr (k, omega (arith, lt), is)

object_leads : (conv : Conv) (at : ℕ) (heap : List Content) (this : ℕ) → Contains (along object_shown conv at heap) this → LeadsToTable conv at heap this
object_leads conv at [] this here = absurd (omega (arith, here.1))
object_leads conv at (Data bytes ∷ heap) this here = behind conv at (Data bytes) heap this (object_leads conv (at + space_of conv (Data bytes)) heap this here)
object_leads conv at (Object number ∷ heap) this here =
    let table = low_bytes (word_of conv) VTABLE_AT in let own = low_bytes (word_of conv) number in
    let zeros : List ℕ = replicate (space_for (length (table ++ own)) - length (table ++ own)) 0 in
    elim (first_or_later at (along object_shown conv (at + space_of conv (Object number)) heap) this here.0 here.1 here.2) as (λ _. LeadsToTable conv at (Object number ∷ heap) this) [
      | inl same ↦ (
        [],
        own ++ (zeros ++ blocks_image conv heap),
        append_assoc (table ++ own) zeros (blocks_image conv heap) ∙ append_assoc table own (zeros ++ blocks_image conv heap),
        omega (arith, same),
      )
      | inr later ↦ behind conv at (Object number) heap this (object_leads conv (at + space_of conv (Object number)) heap this later)
    ]

-- the entry of a slot, loaded through an object
pub entry_is : (m : MachineView) (heap : List Content) (this slot : ℕ) → Holds m heap → Contains m.objects this → slot < SLOTS → entry_at m this slot ≡ Some (entry_of slot)
entry_is m heap this slot held here lt =
    let n = word_of m.conv in let words = slot_words n SLOTS in let own = low_bytes n (entry_of slot) in
    let zeros : List ℕ = replicate (space_for (length words) - length words) 0 in
    let rest : List ℕ = zeros ++ blocks_image m.conv heap in
    let object : LeadsToTable m.conv (heap_at m.conv) heap this = object_leads m.conv (heap_at m.conv) heap this (subst (λ os. Contains os this) held.objects here) in
    let first : m.memory ≡ (vtable m.conv ++ object.0) ++ (low_bytes n VTABLE_AT ++ object.1)
    = held.memory ∙ ap (λ l. vtable m.conv ++ l) object.2 ∙ sym (append_assoc (vtable m.conv) object.0 (low_bytes n VTABLE_AT ++ object.1)) in
    let at : this ≡ VTABLE_AT + length (vtable m.conv ++ object.0) = omega (arith, object.3, length-append (vtable m.conv) object.0, length-vtable m.conv) in
    let row : (back : List ℕ) × (slot_words n SLOTS ≡ slot_words n slot ++ (low_bytes n (entry_of slot) ++ back)) = slot_in n SLOTS slot lt in
    let second : m.memory ≡ slot_words n slot ++ (own ++ (row.0 ++ rest))
    = held.memory ∙ append_assoc words zeros (blocks_image m.conv heap) ∙ ap (λ l. l ++ rest) row.1
    ∙ append_assoc (slot_words n slot) (own ++ row.0) rest ∙ ap (λ l. slot_words n slot ++ l) (append_assoc own row.0 rest) in
    let there : VTABLE_AT + n * slot ≡ VTABLE_AT + length (slot_words n slot) = omega (arith, length-slot_words n slot) in
    ap (option_and_then (λ table. word_at m (table + n * slot))) (word_read m (vtable m.conv ++ object.0) object.1 VTABLE_AT this first at (omega arith))
    ∙ word_read m (slot_words n slot) (row.0 ++ rest) (entry_of slot) (VTABLE_AT + n * slot) second there (omega (arith, lt))
