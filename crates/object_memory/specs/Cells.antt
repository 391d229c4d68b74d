-- The pushed cells as numbers of 8 bytes.
use Rattle.std.specs.Prelude.{◌≡◌, ℕ, zero, suc, ◌+◌, ◌*◌, ◌/◌, ◌≤◌, List, [], ◌∷◌, length, take, drop, slice_index, Option, Some}
use Rattle.raw_block.specs.Bytes.{overwritten}
use Rattle.xp_base.specs.LittleEndian.{number_of}
use Rattle.object_memory.specs.declared.layout.TheConstants.{CELLS_AT}
use Rattle.object_memory.specs.declared.width.Width.{Width}
use Rattle.object_memory.specs.declared.width.Width.TheVariants.{W8}
use Rattle.object_memory.specs.Memory.{MachineView}

-- so many numbers of 8 bytes each, which stand one after the other
unfoldable pub numbers : (n : ℕ) → List ℕ → List ℕ
numbers zero bytes = []
numbers (suc n) bytes = number_of (take 8 bytes) ∷ numbers n (drop 8 bytes)

-- the numbers of the cells whose bytes are given
abbrev pub cell_numbers : List ℕ → List ℕ
cell_numbers cells = numbers (length cells / 8) cells

-- cell k is pushed, and stands at the address `at`
abbrev pub IsCell : MachineView → (at k : ℕ) → Type 0
IsCell m at k = (at ≡ CELLS_AT + 8 * k) × (8 * k + 8 ≤ length m.cells)

-- 8 bytes that are loaded at the address of a cell are the cell's number
abbrev pub LoadsCell : MachineView → (at : ℕ) → Width → Option ℕ → Type 0
LoadsCell m at width loaded =
    width ≡ W8
    → (k : ℕ) → IsCell m at k → loaded ≡ Some (slice_index (cell_numbers m.cells) k)

-- 8 bytes that are stored at the address of a cell are its new number, and all others stay
abbrev pub StoresCell : (old new : MachineView) → (at : ℕ) → Width → (v : ℕ) → Type 0
StoresCell old new at width v =
    width ≡ W8
    → (k : ℕ) → IsCell old at k
    → cell_numbers new.cells ≡ overwritten (cell_numbers old.cells) k (v ∷ [])
