-- What is read and written in blocks is read and written on the machine that holds them.
use Rattle.std.proofs.Common.{◌≡◌, ℕ, zero, suc, ◌+◌, ◌-◌, ◌<◌, ◌≤◌, Bool, true, false, ◌&&◌, cond, List, [], ◌∷◌, length, get_or, Option, Some, None, refl, sym, ap, subst, ◌∙◌, ◌⊎◌, inl, inr, arith}
use Rattle.std.specs.Prelude.{nat_lt, nat_le, is_some, slice_range}
use Rattle.std.specs.List.{Any}
use Rattle.std.specs.Option.{option_or}
use Rattle.std.proofs.lemmas.Bool.{false≢true}
use Rattle.std.proofs.lemmas.Grind.{common_steps}
use Rattle.raw_block.specs.Bytes.{overwritten}
use Rattle.call_model.specs.declared.places.Conv.{Conv}
use Rattle.object_memory.specs.declared.data_block.DataBlock.{DataBlock}
use Rattle.object_memory.specs.Heap.{Content, Data as DataContent, Object as ObjectContent, Holds, along, block_shown, bytes_along, content_after, content_bytes, heap_after, heap_at, heap_bytes, lies_in, space_of}
use Rattle.object_memory.specs.Heap as heaps
use Rattle.object_memory.specs.Layout.{space_for}
use Rattle.object_memory.specs.Memory.{MachineView, InBlock, Inside, written}
use Rattle.object_memory.proofs.Held.{holds-written}
use Rattle.object_memory.proofs.Lists.{length-overwritten}
use Rattle.call_replies.specs.Blocks.{Held, Data, Object, Forwarder, Block, ArePlaced, HoldsBlocks, blocks_after, bytes_in, content_of, contents, data_at, held_after}

-- ---- reading

-- the bytes of data that a block shows, before those of the others
first_of_test : {A : Type 0} (t : Bool) (x : A) (rest later : Option A) → rest ≡ later → option_or (cond (true && t) (Some x) None) rest ≡ cond t (Some x) later
first_of_test true x rest later is = refl
first_of_test false x rest later is = is

some_test : (n : ℕ) → 1 ≤ n → nat_lt 0 n ≡ true
some_test n some = grind (arith, common_steps)

none_test : nat_lt 0 0 ≡ false
none_test = refl

first_shown : (conv : Conv) (at : ℕ) (held : Held) (rest : Option (List ℕ)) (more : List Content) (a n : ℕ) → 1 ≤ n
    → rest ≡ bytes_along conv (at + space_of conv (content_of held)) more a n
    → option_or (bytes_in at held a n) rest ≡ bytes_along conv at (content_of held ∷ more) a n
first_shown conv at (Data bytes) rest more a n some is =
    rw (some_test n some) (first_of_test (lies_in at bytes a n) (slice_range bytes (a - at) (a - at + n)) rest (bytes_along conv (at + space_of conv (DataContent bytes)) more a n) is)
first_shown conv at (Object number iface) rest more a n some is = is
first_shown conv at (Forwarder number iface target own) rest more a n some is = is

pub data_at-along : (conv : Conv) (at : ℕ) (blocks : List Block) (a n : ℕ) → 1 ≤ n → ArePlaced conv at blocks
    → data_at blocks a n ≡ bytes_along conv at (contents blocks) a n
data_at-along conv at [] a n some placed = refl
data_at-along conv at (b ∷ blocks) a n some placed =
    ap (λ k. option_or (bytes_in k b.held a n) (data_at blocks a n)) placed.0
    ∙ first_shown conv at b.held (data_at blocks a n) (contents blocks) a n some (data_at-along conv (at + space_of conv (content_of b.held)) blocks a n some placed.1)

-- ---- which bytes lie in one data block

abbrev IsShown : Conv → (at : ℕ) → List Content → (a n : ℕ) → Type 0
IsShown conv at heap a n = Any (InBlock a n) (along block_shown conv at heap)

later_block : (x : DataBlock) (xs : List DataBlock) (P : DataBlock → Type 0) → Any P xs → Any P (x ∷ xs)
later_block x xs P any = (suc any.0, any.1, omega (arith, any.2), any.3, any.4)

cons_any : (x : DataBlock) (xs : List DataBlock) (P : DataBlock → Type 0) (k : ℕ) (y : DataBlock) → k < length (x ∷ xs) → get_or (x ∷ xs) k y ≡ y → P y → P x ⊎ Any P xs
cons_any x xs P zero y lt same p = inl (subst P (sym same) p)
cons_any x xs P (suc k) y lt same p = let less : k < length xs = omega (arith, lt) in inr (k, y, less, same, p)

both_of : (a b c d : ℕ) → (nat_le a b && nat_le c d) ≡ true → (a ≤ b) × (c ≤ d)
both_of a b c d is = (grind (arith, common_steps, is), grind (arith, common_steps, is))

both_are : (a b c d : ℕ) → a ≤ b → c ≤ d → (nat_le a b && nat_le c d) ≡ true
both_are a b c d p q = grind (arith, common_steps)

is_first : {A : Type 0} (t : Bool) (x : A) (later : Option A) → is_some (cond t (Some x) later) ≡ true → (t ≡ true) ⊎ (is_some later ≡ true)
is_first true x later h = inl refl
is_first false x later h = inr h

some_first : {A : Type 0} (t : Bool) (x : A) (later : Option A) → t ≡ true → is_some (cond t (Some x) later) ≡ true
some_first true x later h = refl
some_first false x later h = absurd (false≢true h)

some_later : {A : Type 0} (t : Bool) (x : A) (later : Option A) → is_some later ≡ true → is_some (cond t (Some x) later) ≡ true
some_later true x later h = refl
some_later false x later h = h

shown_from : (conv : Conv) (at : ℕ) (heap : List Content) (a n : ℕ) → is_some (bytes_along conv at heap a n) ≡ true → IsShown conv at heap a n
shown_from conv at [] a n h = absurd (false≢true h)
shown_from conv at (DataContent bytes ∷ heap) a n h =
    let x : DataBlock = record { address = at; length = length bytes } in let xs = along block_shown conv (at + space_of conv (DataContent bytes)) heap in
    elim (is_first (lies_in at bytes a n) (slice_range bytes (a - at) (a - at + n)) _ h) as (λ _. Any (InBlock a n) (x ∷ xs)) [
      | inl here ↦ (0, x, omega arith, refl, both_of at a (a + n) (at + length bytes) here)
      | inr later ↦ later_block x xs (InBlock a n) (shown_from conv (at + space_of conv (DataContent bytes)) heap a n later)
    ]
shown_from conv at (ObjectContent number ∷ heap) a n h = shown_from conv (at + space_of conv (ObjectContent number)) heap a n h

from_shown : (conv : Conv) (at : ℕ) (heap : List Content) (a n : ℕ) → IsShown conv at heap a n → is_some (bytes_along conv at heap a n) ≡ true
from_shown conv at [] a n any = absurd (omega (arith, any.2))
from_shown conv at (DataContent bytes ∷ heap) a n any =
    let x : DataBlock = record { address = at; length = length bytes } in let xs = along block_shown conv (at + space_of conv (DataContent bytes)) heap in
    elim (cons_any x xs (InBlock a n) any.0 any.1 any.2 any.3 any.4) as (λ _. is_some (bytes_along conv at (DataContent bytes ∷ heap) a n) ≡ true) [
      | inl here ↦ some_first (lies_in at bytes a n) (slice_range bytes (a - at) (a - at + n)) _ (both_are at a (a + n) (at + length bytes) here.0 here.1)
      | inr later ↦ some_later (lies_in at bytes a n) (slice_range bytes (a - at) (a - at + n)) _ (from_shown conv (at + space_of conv (DataContent bytes)) heap a n later)
    ]
from_shown conv at (ObjectContent number ∷ heap) a n any = from_shown conv (at + space_of conv (ObjectContent number)) heap a n any

-- no byte at all lies nowhere
none_in : (at : ℕ) (held : Held) (a : ℕ) → bytes_in at held a 0 ≡ None
none_in at (Data bytes) a = refl
none_in at (Object number iface) a = refl
none_in at (Forwarder number iface target own) a = refl

data_at-zero : (blocks : List Block) (a : ℕ) → data_at blocks a 0 ≡ None
data_at-zero [] a = refl
data_at-zero (b ∷ blocks) a = rw (none_in b.at b.held a) (data_at-zero blocks a)

some_bytes : (blocks : List Block) (a n : ℕ) → is_some (data_at blocks a n) ≡ true → 1 ≤ n
some_bytes blocks a zero h = absurd (false≢true (ap is_some (sym (data_at-zero blocks a)) ∙ h))
some_bytes blocks a (suc n) h = omega arith

module _ (m : MachineView) (blocks : List Block) (held : HoldsBlocks m blocks) (a n : ℕ) where
  -- the look-up finds bytes exactly where they lie in one data block of the machine
  pub inside-from : is_some (data_at blocks a n) ≡ true → Inside m.blocks a n
  inside-from h =
      let some = some_bytes blocks a n h in
      let along_is = data_at-along m.conv (heap_at m.conv) blocks a n some held.placed in
      (some, subst (Any (InBlock a n)) (sym held.heap.blocks) (shown_from m.conv (heap_at m.conv) (contents blocks) a n (ap is_some (sym along_is) ∙ h)))

  pub from-inside : Inside m.blocks a n → is_some (data_at blocks a n) ≡ true
  from-inside inside =
      let along_is = data_at-along m.conv (heap_at m.conv) blocks a n inside.0 held.placed in
      ap is_some along_is ∙ from_shown m.conv (heap_at m.conv) (contents blocks) a n (subst (Any (InBlock a n)) held.heap.blocks inside.1)

  -- and these are the bytes of the heap
  pub heap_bytes-is : Inside m.blocks a n → heap_bytes m.conv (contents blocks) a n ≡ data_at blocks a n
  heap_bytes-is inside = sym (data_at-along m.conv (heap_at m.conv) blocks a n inside.0 held.placed)

-- ---- writing

content_of-choice : (t : Bool) (new old : List ℕ) → content_of (cond t (Data new) (Data old)) ≡ cond t (DataContent new) (DataContent old)
content_of-choice true new old = refl
content_of-choice false new old = refl

-- what a block holds after a write is what the heap has after it
content_of-after : (at : ℕ) (held : Held) (a : ℕ) (w : List ℕ) → content_of (held_after at held a w) ≡ content_after at (content_of held) a w
content_of-after at (Data old) a w = content_of-choice (lies_in at old a (length w)) (overwritten old (a - at) w) old
content_of-after at (Object number iface) a w = refl
content_of-after at (Forwarder number iface target own) a w = refl

choice_len : (conv : Conv) (t : Bool) (new old : List ℕ) → (t ≡ true → length new ≡ length old)
    → space_of conv (cond t (DataContent new) (DataContent old)) ≡ space_of conv (DataContent old)
choice_len conv true new old same = ap space_for (same refl)
choice_len conv false new old same = refl

-- a write leaves the space of each block
space-after : (conv : Conv) (at : ℕ) (c : Content) (a : ℕ) (w : List ℕ) → space_of conv (content_after at c a w) ≡ space_of conv c
space-after conv at (DataContent old) a w =
    choice_len conv (lies_in at old a (length w)) (overwritten old (a - at) w) old
    (λ is. let here = both_of at a (a + length w) (at + length old) is in length-overwritten old (a - at) w (omega (arith, here.0, here.1)))
space-after conv at (ObjectContent number) a w = refl

space-held : (conv : Conv) (b : Block) (at a : ℕ) (w : List ℕ) → b.at ≡ at → content_of (held_after b.at b.held a w) ≡ content_after at (content_of b.held) a w
space-held conv b at a w is = ap (λ k. content_of (held_after k b.held a w)) is ∙ content_of-after at b.held a w

pub contents-after : (conv : Conv) (at : ℕ) (blocks : List Block) (a : ℕ) (w : List ℕ) → ArePlaced conv at blocks
    → contents (blocks_after blocks a w) ≡ heaps.blocks_after conv at (contents blocks) a w
contents-after conv at [] a w placed = refl
contents-after conv at (b ∷ blocks) a w placed =
    λ i. space-held conv b at a w placed.0 i ∷ contents-after conv (at + space_of conv (content_of b.held)) blocks a w placed.1 i

pub placed-after : (conv : Conv) (at : ℕ) (blocks : List Block) (a : ℕ) (w : List ℕ) → ArePlaced conv at blocks → ArePlaced conv at (blocks_after blocks a w)
placed-after conv at [] a w placed = tt
placed-after conv at (b ∷ blocks) a w placed =
    let space : space_of conv (content_of (held_after b.at b.held a w)) ≡ space_of conv (content_of b.held)
    = ap (space_of conv) (space-held conv b at a w placed.0) ∙ space-after conv at (content_of b.held) a w in
    (placed.0, subst (λ k. ArePlaced conv (at + k) (blocks_after blocks a w)) (sym space) (placed-after conv (at + space_of conv (content_of b.held)) blocks a w placed.1))

-- the machine holds the blocks with bytes written to one of them
pub holds_blocks-written : (m : MachineView) (blocks : List Block) (a : ℕ) (w : List ℕ) → HoldsBlocks m blocks → Inside m.blocks a (length w)
    → (written m a w).conv ≡ m.conv → HoldsBlocks (written m a w) (blocks_after blocks a w)
holds_blocks-written m blocks a w held inside conv_is = record {
  heap = subst (Holds (written m a w)) (sym (contents-after m.conv (heap_at m.conv) blocks a w held.placed)) (holds-written m (contents blocks) a w inside held.heap);
  placed = subst (λ k. ArePlaced k (heap_at k) (blocks_after blocks a w)) (sym conv_is) (placed-after m.conv (heap_at m.conv) blocks a w held.placed);
}
