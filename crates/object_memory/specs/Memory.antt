-- What a machine holds, and which of its bytes can be read.
use Rattle.std.specs.Prelude.{◌≡◌, ℕ, ◌+◌, ◌-◌, ◌*◌, ◌<◌, ◌≤◌, ◌⊎◌, ◌&&◌, Bool, nat_le, List, [], length, slice_range, AllPairs, Any, Option, Some, None, option_and_then, if◌then◌else◌}
use Rattle.std.specs.Option.{option_map}
use Rattle.call_model.specs.declared.places.Conv.{Conv}
use Rattle.call_model.specs.Placement.{word_of}
use Rattle.call_model.specs.Values.{FrameView}
use Rattle.object_memory.specs.declared.data_block.DataBlock.{DataBlock}
use Rattle.object_memory.specs.declared.layout.TheConstants.{VTABLE_AT, CELLS_AT, MOST_CELLS}
use Rattle.raw_block.specs.Bytes.{overwritten}
use Rattle.xp_base.specs.LittleEndian.{number_of}
use Rattle.object_memory.specs.Frames.{zero_frame}
use Rattle.object_memory.specs.Layout.{vtable, vtable_space}

-- the convention; the bytes of vtable and heap, from VTABLE_AT on; the data blocks, by address;
-- the addresses of the objects, by number; the bytes of the pushed cells, from CELLS_AT on; and
-- the frame
pub record MachineView : Type 0 where
  pub conv : Conv
  pub memory : List ℕ
  pub blocks : List DataBlock
  pub objects : List ℕ
  pub cells : List ℕ
  pub frame : FrameView

-- the machine before anything was added to it
abbrev pub new_machine : Conv → MachineView
new_machine conv = record {
  conv = conv;
  memory = vtable conv;
  blocks = [];
  objects = [];
  cells = [];
  frame = zero_frame 0;
}

-- the bytes that the blocks of the heap occupy
abbrev pub occupied : MachineView → ℕ
occupied m = length m.memory - vtable_space m.conv

-- what is true of every machine: vtable and heap end below the cells, there are at most so many
-- cells, and the addresses of the objects rise with their numbers
pub record IsLaidOut (m : MachineView) : Type 0 where
  pub below_cells : VTABLE_AT + length m.memory < CELLS_AT
  pub most_cells : length m.cells ≤ 8 * MOST_CELLS
  pub rising : AllPairs (λ a b. a < b) m.objects

-- n bytes from the address `at` on lie in a range of bytes that begins at `start`
abbrev pub Within : (start : ℕ) → List ℕ → (at n : ℕ) → Type 0
Within start bytes at n = (start ≤ at) × (at + n ≤ start + length bytes)

-- they lie in vtable and heap
abbrev pub InMemory : MachineView → (at n : ℕ) → Type 0
InMemory m at n = Within VTABLE_AT m.memory at n

-- they lie in the pushed cells
abbrev pub InCells : MachineView → (at n : ℕ) → Type 0
InCells m at n = Within CELLS_AT m.cells at n

-- they can be read and written
abbrev pub IsReadable : MachineView → (at n : ℕ) → Type 0
IsReadable m at n = InMemory m at n ⊎ InCells m at n

-- they lie in this data block
abbrev pub InBlock : (at n : ℕ) → DataBlock → Type 0
InBlock at n block = (block.address ≤ at) × (at + n ≤ block.address + block.length)

-- there is a byte at least, and all lie in one data block
abbrev pub Inside : List DataBlock → (at n : ℕ) → Type 0
Inside blocks at n = (1 ≤ n) × Any (InBlock at n) blocks

abbrev pub is_within : (start : ℕ) → List ℕ → (at n : ℕ) → Bool
is_within start bytes at n = nat_le start at && nat_le (at + n) (start + length bytes)

-- the n bytes from the address `at` on, in vtable and heap, and in the pushed cells
abbrev pub memory_bytes : MachineView → (at n : ℕ) → List ℕ
memory_bytes m at n = slice_range m.memory (at - VTABLE_AT) (at - VTABLE_AT + n)

abbrev pub cell_bytes : MachineView → (at n : ℕ) → List ℕ
cell_bytes m at n = slice_range m.cells (at - CELLS_AT) (at - CELLS_AT + n)

-- the n bytes from the address `at` on, where they can be read
abbrev pub bytes_at : MachineView → (at n : ℕ) → Option (List ℕ)
bytes_at m at n =
    if is_within VTABLE_AT m.memory at n then Some (memory_bytes m at n)
    else if is_within CELLS_AT m.cells at n then Some (cell_bytes m at n)
    else None

-- the number of n bytes at the address `at`
abbrev pub number_at : MachineView → (at n : ℕ) → Option ℕ
number_at m at n = option_map number_of (bytes_at m at n)

-- the word at an address
abbrev pub word_at : MachineView → ℕ → Option ℕ
word_at m at = number_at m at (word_of m.conv)

-- the entry of a slot: the word at the word at `this` and so many words further
abbrev pub entry_at : MachineView → (this slot : ℕ) → Option ℕ
entry_at m this slot =
    option_and_then (λ table. word_at m (table + word_of m.conv * slot)) (word_at m this)

-- the machine after bytes were written at an address in vtable and heap: nothing else changed
abbrev pub with_memory : MachineView → ℕ → List ℕ → MachineView
with_memory m at bytes = record m { memory = overwritten m.memory (at - VTABLE_AT) bytes }

-- the machine after bytes were written at an address in the pushed cells: nothing else changed
abbrev pub with_cells : MachineView → ℕ → List ℕ → MachineView
with_cells m at bytes = record m { cells = overwritten m.cells (at - CELLS_AT) bytes }

-- the machine after bytes were written at an address, where they can be
abbrev pub written : MachineView → ℕ → List ℕ → MachineView
written m at bytes =
    if is_within VTABLE_AT m.memory at (length bytes) then with_memory m at bytes
    else if is_within CELLS_AT m.cells at (length bytes) then with_cells m at bytes
    else m
