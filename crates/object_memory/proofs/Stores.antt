-- What a store does, by where it writes.
use Rattle.std.proofs.Common.{◌≡◌, ℕ, ◌+◌, ◌-◌, ◌*◌, ◌^◌, ◌<◌, ◌≤◌, Bool, true, false, List, length, take, refl, sym, subst, ap, ◌∙◌, arith, ◌⊎◌, inl, inr, Option, Some}
use Rattle.std.specs.Prelude.{slice_range, IsTrue}
use Rattle.std.specs.List.{AllPairs}
use Rattle.std.proofs.lemmas.Bool.{false≢true}
use Rattle.std.proofs.lemmas.List.{length-take-le}
use Rattle.call_model.specs.declared.places.Conv.{Conv}
use Rattle.call_model.specs.Values.{FrameView}
use Rattle.raw_block.specs.Bytes.{overwritten}
use Rattle.object_memory.specs.declared.data_block.DataBlock.{DataBlock}
use Rattle.object_memory.specs.declared.layout.TheConstants.{VTABLE_AT, CELLS_AT}
use Rattle.object_memory.specs.Heap.{Holds, Stores, heap_after}
use Rattle.object_memory.specs.Memory.{MachineView, InCells, InMemory, Inside, IsLaidOut, bytes_at, cell_bytes, with_cells, with_memory, written}
use Rattle.object_memory.specs.Cells.{IsCell, LoadsCell, StoresCell, cell_numbers}
use Rattle.object_memory.specs.WellFormed.{IsWellFormed}
use Rattle.object_memory.specs.Widths.{bytes_of}
use Rattle.object_memory.specs.declared.width.Width.{Width}
use Rattle.object_memory.specs.declared.width.Width.TheVariants.{W1, W2, W4, W8}
use Rattle.xp_base.specs.LittleEndian.{low_bytes, number_of}
use Rattle.object_memory.proofs.CellNumbers.{get_or-cell_numbers, cell_numbers-stored}
use Rattle.object_memory.proofs.Access.{bytes_at-cells, bytes_at-memory, written-cells, written-memory, written-nowhere}
use Rattle.object_memory.proofs.Growth.{space-le}
use Rattle.object_memory.proofs.Held.{holds-written, inside-memory}
use Rattle.object_memory.proofs.Lists.{length-overwritten, written_back}

-- every machine is laid out
pub laid-out : (conv : Conv) (heap : List ℕ) (used : ℕ) (blocks : List DataBlock) (objects cells : List ℕ) (pushed : ℕ) (frame : FrameView) → IsWellFormed conv heap used blocks objects cells pushed
    → IsLaidOut (record { conv = conv; memory = take used heap; blocks = blocks; objects = objects; cells = take (8 * pushed) cells; frame = frame })
laid-out conv heap used blocks objects cells pushed frame ok =
    let fits : 8 * pushed ≤ length cells = omega (arith, ok.all_cells, ok.in_cells) in
    record {
      below_cells = omega (arith, length-take-le used heap ok.spare.fits, ok.limited, space-le conv);
      most_cells = omega (arith, length-take-le (8 * pushed) cells fits, ok.in_cells);
      rising = ok.rising;
    }

module _ (m : MachineView) (laid : IsLaidOut m) where
  -- no address is in vtable and heap and among the cells
  pub cells-apart : (at n : ℕ) → InCells m at n → InMemory m at n → ⊥
  cells-apart at n cells memory = absurd (omega (arith, cells.0, memory.1, laid.below_cells))

  pub bytes_at-in_cells : (at n : ℕ) → InCells m at n → bytes_at m at n ≡ Some (cell_bytes m at n)
  bytes_at-in_cells at n cells = bytes_at-cells m at n (cells-apart at n cells) cells

  module _ (at : ℕ) (bytes : List ℕ) where
    pub stores-memory : (new : MachineView) → InMemory m at (length bytes) → new ≡ with_memory m at bytes → Stores m new at (length bytes) bytes true
    stores-memory new here is =
        let place = at - VTABLE_AT in
        let fits : place + length bytes ≤ length m.memory = omega (arith, here.0, here.1) in
        let same = length-overwritten m.memory place bytes fits in
        let done : new ≡ written m at bytes = is ∙ sym (written-memory m at bytes here) in
        let there : InMemory (with_memory m at bytes) at (length bytes) = (here.0, omega (arith, here.1, same)) in
        record {
          readable = (λ _. inl here, λ _. refl);
          stored = done;
          in_memory = λ _. is;
          in_cells = λ cells. absurd (cells-apart at (length bytes) cells here);
          holds_still = λ cells. absurd (cells-apart at (length bytes) cells here);
          holds_written = λ inside heap held. subst (λ (k : MachineView). Holds k (heap_after m.conv heap at bytes)) (sym done) (holds-written m heap at bytes inside held);
          reads_back = λ _.
              ap (λ (k : MachineView). bytes_at k at (length bytes)) is ∙ bytes_at-memory (with_memory m at bytes) at (length bytes) there ∙ ap Some (written_back m.memory place bytes fits);
        }

    pub stores-cells : (new : MachineView) → InCells m at (length bytes) → new ≡ with_cells m at bytes → Stores m new at (length bytes) bytes true
    stores-cells new here is =
        let place = at - CELLS_AT in
        let out = cells-apart at (length bytes) here in
        let fits : place + length bytes ≤ length m.cells = omega (arith, here.0, here.1) in
        let same = length-overwritten m.cells place bytes fits in
        let done : new ≡ written m at bytes = is ∙ sym (written-cells m at bytes out here) in
        let there : InCells (with_cells m at bytes) at (length bytes) = (here.0, omega (arith, here.1, same)) in
        record {
          readable = (λ _. inr here, λ _. refl);
          stored = done;
          in_memory = λ memory. absurd (out memory);
          in_cells = λ _. is;
          holds_still = λ _ heap held. subst (λ (k : MachineView). Holds k heap) (sym is) (record { memory = held.memory; blocks = held.blocks; objects = held.objects });
          holds_written = λ inside heap held. absurd (out (inside-memory m heap at (length bytes) inside held));
          reads_back = λ _.
              ap (λ (k : MachineView). bytes_at k at (length bytes)) is ∙ bytes_at-cells (with_cells m at bytes) at (length bytes) out there ∙ ap Some (written_back m.cells place bytes fits);
        }

    pub stores-nowhere : (InMemory m at (length bytes) → ⊥) → (InCells m at (length bytes) → ⊥) → Stores m m at (length bytes) bytes false
    stores-nowhere out off = record {
      readable = (λ t. absurd (false≢true t), λ is. elim is as (λ _. IsTrue false) [ inl memory ↦ absurd (out memory) | inr cells ↦ absurd (off cells) ]);
      stored = sym (written-nowhere m at bytes out off);
      in_memory = λ memory. absurd (out memory);
      in_cells = λ cells. absurd (off cells);
      holds_still = λ cells. absurd (off cells);
      holds_written = λ inside heap held. absurd (out (inside-memory m heap at (length bytes) inside held));
      reads_back = λ t. absurd (false≢true t);
    }

-- a store of as many bytes as are said
pub stores-count : (old new : MachineView) (at n : ℕ) (bytes : List ℕ) (r : Bool) → length bytes ≡ n → Stores old new at (length bytes) bytes r → Stores old new at n bytes r
stores-count old new at n bytes r count = subst (λ k. Stores old new at k bytes r) count

pub bytes_of-le : (width : Width) → bytes_of width ≤ 8
bytes_of-le W1 = omega arith
bytes_of-le W2 = omega arith
bytes_of-le W4 = omega arith
bytes_of-le W8 = omega arith

-- 8 bytes at the address of a cell are in the pushed cells
cell-inside : (m : MachineView) (at k : ℕ) (width : Width) → width ≡ W8 → IsCell m at k → InCells m at (bytes_of width)
cell-inside m at k width eight here = subst (λ (w : Width). InCells m at (bytes_of w)) (sym eight) (omega (arith, here.0), omega (arith, here.0, here.1))

-- they are the cell's number
pub loads-cell : (m : MachineView) (at : ℕ) (width : Width) (loaded : Option ℕ) → (InCells m at (bytes_of width) → loaded ≡ Some (number_of (cell_bytes m at (bytes_of width)))) → LoadsCell m at width loaded
loads-cell m at width loaded is = λ eight k here.
    let place : at - CELLS_AT ≡ 8 * k = omega (arith, here.0) in
    is (cell-inside m at k width eight here)
    ∙ ap Some ((λ i. number_of (slice_range m.cells (place i) (place i + bytes_of (eight i)))) ∙ sym (get_or-cell_numbers m.cells k here.1))

pub stores-cell : (old new : MachineView) (at : ℕ) (width : Width) (v : ℕ) (r : Bool) → v < 2 ^ 64 → Stores old new at (bytes_of width) (low_bytes (bytes_of width) v) r → StoresCell old new at width v
stores-cell old new at width v r small stores = λ eight k here.
    let place : at - CELLS_AT ≡ 8 * k = omega (arith, here.0) in
    ap (λ (m : MachineView). cell_numbers m.cells) (stores.in_cells (cell-inside old at k width eight here))
    ∙ (λ i. cell_numbers (overwritten old.cells (place i) (low_bytes (bytes_of (eight i)) v)))
    ∙ cell_numbers-stored old.cells k v here.1 small
