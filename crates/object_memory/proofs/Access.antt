-- What is read and written at an address.
use Rattle.std.proofs.Common.{◌≡◌, ℕ, ◌+◌, ◌-◌, ◌≤◌, true, false, ◌&&◌, List, length, take, drop, replicate, refl, sym, subst, ap, ◌∙◌, arith, Option, Some, None}
use Rattle.std.specs.Prelude.{nat_le, slice_range}
use Rattle.std.specs.Option.{SomeIff, option_map}
use Rattle.std.proofs.lemmas.Grind.{common_steps}
use Rattle.std.proofs.lemmas.List.{length-take-le, take-take, drop-take}
use Rattle.raw_block.specs.Bytes.{overwritten}
use Rattle.call_model.specs.declared.places.Conv.{Conv}
use Rattle.object_memory.specs.declared.data_block.DataBlock.{DataBlock}
use Rattle.object_memory.specs.declared.layout.TheConstants.{VTABLE_AT, CELLS_AT}
use Rattle.xp_base.specs.LittleEndian.{low_bytes, number_of}
use Rattle.object_memory.specs.Memory.{MachineView, InMemory, InCells, bytes_at, cell_bytes, with_cells, with_memory, written}
use Rattle.object_memory.specs.WellFormed.{IsWellFormed}
use Rattle.xp_base.proofs.LittleEndian.{length-low_bytes}
use Rattle.object_memory.proofs.Lists.{length-overwritten, take-overwritten, drop-overwritten}

pub both_true : (a b c d : ℕ) → a ≤ b → c ≤ d → (nat_le a b && nat_le c d) ≡ true
both_true a b c d p q = grind (arith, common_steps)

pub both_false : (a b c d : ℕ) → (a ≤ b → c ≤ d → ⊥) → (nat_le a b && nat_le c d) ≡ false
both_false a b c d fails = grind (arith, common_steps, fails)

pub bytes_at-memory : (m : MachineView) (at n : ℕ) → InMemory m at n → bytes_at m at n ≡ Some (slice_range m.memory (at - VTABLE_AT) (at - VTABLE_AT + n))
bytes_at-memory m at n inside = rw (both_true VTABLE_AT at (at + n) (VTABLE_AT + length m.memory) inside.0 inside.1) refl

pub bytes_at-cells : (m : MachineView) (at n : ℕ) → (InMemory m at n → ⊥) → InCells m at n → bytes_at m at n ≡ Some (slice_range m.cells (at - CELLS_AT) (at - CELLS_AT + n))
bytes_at-cells m at n out inside =
    rw (both_false VTABLE_AT at (at + n) (VTABLE_AT + length m.memory) (λ p q. out (p, q)), both_true CELLS_AT at (at + n) (CELLS_AT + length m.cells) inside.0 inside.1) refl

pub bytes_at-none : (m : MachineView) (at n : ℕ) → (InMemory m at n → ⊥) → (InCells m at n → ⊥) → None ≡ bytes_at m at n
bytes_at-none m at n out off =
    rw (both_false VTABLE_AT at (at + n) (VTABLE_AT + length m.memory) (λ p q. out (p, q)), both_false CELLS_AT at (at + n) (CELLS_AT + length m.cells) (λ p q. off (p, q))) refl

pub written-memory : (m : MachineView) (at : ℕ) (bytes : List ℕ) → InMemory m at (length bytes) → written m at bytes ≡ record m { memory = overwritten m.memory (at - VTABLE_AT) bytes }
written-memory m at bytes inside = rw (both_true VTABLE_AT at (at + length bytes) (VTABLE_AT + length m.memory) inside.0 inside.1) refl

pub written-cells : (m : MachineView) (at : ℕ) (bytes : List ℕ) → (InMemory m at (length bytes) → ⊥) → InCells m at (length bytes) → written m at bytes ≡ record m { cells = overwritten m.cells (at - CELLS_AT) bytes }
written-cells m at bytes out inside =
    rw (both_false VTABLE_AT at (at + length bytes) (VTABLE_AT + length m.memory) (λ p q. out (p, q)), both_true CELLS_AT at (at + length bytes) (CELLS_AT + length m.cells) inside.0 inside.1) refl

pub written-nowhere : (m : MachineView) (at : ℕ) (bytes : List ℕ) → (InMemory m at (length bytes) → ⊥) → (InCells m at (length bytes) → ⊥) → written m at bytes ≡ m
written-nowhere m at bytes out off =
    rw (both_false VTABLE_AT at (at + length bytes) (VTABLE_AT + length m.memory) (λ p q. out (p, q)), both_false CELLS_AT at (at + length bytes) (CELLS_AT + length m.cells) (λ p q. off (p, q))) refl

pub slice_range-take : (xs : List ℕ) (u i j : ℕ) → i ≤ j → j ≤ u → slice_range (take u xs) i j ≡ slice_range xs i j
slice_range-take xs u i j le low =
    let m = u - i in let again : i + m ≡ u = omega (arith, le, low) in let short : j - i ≤ m = omega (arith, le, low) in
    ap (λ k. take (j - i) (drop i (take k xs))) (sym again) ∙ ap (λ l. take (j - i) l) (drop-take i m xs) ∙ take-take (j - i) m (drop i xs) short

-- a place in a range that begins at `start` and of which `count` bytes are in use
abbrev pub IsFound : (start count at n place : ℕ) → Type 0
IsFound start count at n place = ((start ≤ at) × (at + n ≤ start + count)) × (place ≡ at - start)

pub none_found : (r : Option ℕ) (P : Type 0) (v : ℕ) → SomeIff r P v → ((x : ℕ) → r ≡ Some x → ⊥) → P → ⊥
none_found None P v fails not_some = fails
none_found (Some x) P v is not_some = λ p. not_some x refl

module _ (m : MachineView) (at n : ℕ) (heap : List ℕ) (used : ℕ) (view : take used heap ≡ m.memory) (fits : used ≤ length heap) where
  memory_len : length m.memory ≡ used
  memory_len = ap length (sym view) ∙ length-take-le used heap fits

  pub in_memory : (VTABLE_AT ≤ at) × (at + n ≤ VTABLE_AT + used) → InMemory m at n
  in_memory here = (here.0, omega (arith, here.1, memory_len))

  pub out_of_memory : ((VTABLE_AT ≤ at) × (at + n ≤ VTABLE_AT + used) → ⊥) → InMemory m at n → ⊥
  out_of_memory fails here = fails (here.0, omega (arith, here.1, memory_len))

  pub read_memory : (ys : List ℕ) (place : ℕ) → IsFound VTABLE_AT used at n place → ys ≡ slice_range heap place (place + n) → Some ys ≡ bytes_at m at n
  read_memory ys place here is =
      let low : place + n ≤ used = omega (arith, here.0.0, here.0.1, here.1) in let up : place ≤ place + n = omega arith in
      ap Some (is ∙ sym (slice_range-take heap used place (place + n) up low) ∙ (λ i. slice_range (view i) (here.1 i) (here.1 i + n))) ∙ sym (bytes_at-memory m at n (in_memory here.0))

module _ (m : MachineView) (at n : ℕ) (cells : List ℕ) (count : ℕ) (view : take count cells ≡ m.cells) (fits : count ≤ length cells) where
  cells_len : length m.cells ≡ count
  cells_len = ap length (sym view) ∙ length-take-le count cells fits

  pub in_cells : (CELLS_AT ≤ at) × (at + n ≤ CELLS_AT + count) → InCells m at n
  in_cells here = (here.0, omega (arith, here.1, cells_len))

  pub out_of_cells : ((CELLS_AT ≤ at) × (at + n ≤ CELLS_AT + count) → ⊥) → InCells m at n → ⊥
  out_of_cells fails here = fails (here.0, omega (arith, here.1, cells_len))

  pub read_cells : (ys : List ℕ) (place : ℕ) → (InMemory m at n → ⊥) → IsFound CELLS_AT count at n place → ys ≡ slice_range cells place (place + n) → Some ys ≡ bytes_at m at n
  read_cells ys place out here is =
      let low : place + n ≤ count = omega (arith, here.0.0, here.0.1, here.1) in let up : place ≤ place + n = omega arith in
      ap Some (is ∙ sym (slice_range-take cells count place (place + n) up low) ∙ (λ i. slice_range (view i) (here.1 i) (here.1 i + n))) ∙ sym (bytes_at-cells m at n out (in_cells here.0))

-- a write of these bytes
module _ (m : MachineView) (at : ℕ) (bytes : List ℕ) where
  pub write_memory : (heap new : List ℕ) (used place : ℕ) → take used heap ≡ m.memory → used ≤ length heap → IsFound VTABLE_AT used at (length bytes) place → new ≡ overwritten heap place bytes
      → record m { memory = take used new } ≡ with_memory m at bytes
  write_memory heap new used place view fits here is =
      let end : place + length bytes ≤ used = omega (arith, here.0.0, here.0.1, here.1) in let within : place + length bytes ≤ length heap = omega (arith, end, fits) in
      ap (λ (l : List ℕ). record m { memory = l }) (ap (λ l. take used l) is ∙ take-overwritten heap place bytes within used end ∙ (λ i. overwritten (view i) (here.1 i) bytes))

  pub write_cells : (cells new : List ℕ) (used place : ℕ) → take used cells ≡ m.cells → used ≤ length cells → IsFound CELLS_AT used at (length bytes) place → new ≡ overwritten cells place bytes
      → record m { cells = take used new } ≡ with_cells m at bytes
  write_cells cells new used place view fits here is =
      let end : place + length bytes ≤ used = omega (arith, here.0.0, here.0.1, here.1) in let within : place + length bytes ≤ length cells = omega (arith, end, fits) in
      ap (λ (l : List ℕ). record m { cells = l }) (ap (λ l. take used l) is ∙ take-overwritten cells place bytes within used end ∙ (λ i. overwritten (view i) (here.1 i) bytes))

zeros_left : (heap new : List ℕ) (used : ℕ) → length new ≡ length heap → replicate {A = ℕ} (length heap - used) 0 ≡ replicate (length new - used) 0
zeros_left heap new used same = ap (λ k. replicate {A = ℕ} (k - used) 0) (sym same)

-- a write within what is in use
pub well_formed-written : (conv : Conv) (heap new : List ℕ) (used : ℕ) (blocks : List DataBlock) (objects cells : List ℕ) (pushed place : ℕ) (ys : List ℕ) → IsWellFormed conv heap used blocks objects cells pushed
    → place + length ys ≤ used → new ≡ overwritten heap place ys → IsWellFormed conv new used blocks objects cells pushed
well_formed-written conv heap new used blocks objects cells pushed place ys ok end is =
    let within : place + length ys ≤ length heap = omega (arith, end, ok.spare.fits) in
    let same : length new ≡ length heap = ap length is ∙ length-overwritten heap place ys within in
    record {
      spare = record { fits = omega (arith, ok.spare.fits, same); zeros = ap (λ l. drop used l) is ∙ drop-overwritten heap place ys within used end ∙ ok.spare.zeros ∙ zeros_left heap new used same };
      starts = ok.starts;
      limited = ok.limited;
      counted = ok.counted;
      placed = ok.placed;
      apart = ok.apart;
      below = ok.below;
      rising = ok.rising;
      all_cells = ok.all_cells;
      in_cells = ok.in_cells;
    }
