-- The heap as a list of blocks: what each holds, where it stands, and the bytes that vtable and
-- heap are.
use Rattle.std.specs.Prelude.{◌≡◌, ◌↔◌, IsTrue, ℕ, ◌+◌, ◌-◌, ◌&&◌, Bool, nat_le, List, [], ◌∷◌, ◌++◌, length, slice_range, Option, Some, None, if◌then◌else◌}
use Rattle.std.specs.Option.{option_map}
use Rattle.call_model.specs.declared.places.Conv.{Conv}
use Rattle.call_model.specs.Placement.{word_of}
use Rattle.raw_block.specs.Bytes.{overwritten}
use Rattle.object_memory.specs.declared.data_block.DataBlock.{DataBlock}
use Rattle.object_memory.specs.declared.layout.TheConstants.{VTABLE_AT}
use Rattle.xp_base.specs.LittleEndian.{low_bytes, number_of}
use Rattle.object_memory.specs.Layout.{space_for, padded, vtable, vtable_space}
use Rattle.object_memory.specs.Memory.{MachineView, InCells, InMemory, Inside, IsReadable, bytes_at, with_cells, with_memory, written}

-- what a block of the heap holds: the bytes of a data block, or the number of an object
pub data Content : Type 0 where
  Data : List ℕ → Content
  Object : ℕ → Content

-- the bytes of a block: those of a data block, or the two words of an object, the vtable's address
-- and its number
abbrev pub content_bytes : Conv → Content → List ℕ
content_bytes conv (Data bytes) = bytes
content_bytes conv (Object number) =
    low_bytes (word_of conv) VTABLE_AT ++ low_bytes (word_of conv) number

-- the space that a block occupies
abbrev pub space_of : Conv → Content → ℕ
space_of conv c = space_for (length (content_bytes conv c))

-- the blocks, one after the other, each in the space that it occupies
abbrev pub blocks_image : Conv → List Content → List ℕ
blocks_image conv [] = []
blocks_image conv (c ∷ heap) = padded (content_bytes conv c) ++ blocks_image conv heap

-- the bytes from VTABLE_AT on: the vtable, and then the blocks
abbrev pub image : Conv → List Content → List ℕ
image conv heap = vtable conv ++ blocks_image conv heap

-- where the first block of the heap stands
abbrev pub heap_at : Conv → ℕ
heap_at conv = VTABLE_AT + vtable_space conv

-- what the blocks of a heap show at their addresses, the first of which is `at`
abbrev pub along : {X : Type 0} → (ℕ → Content → List X) → Conv → ℕ → List Content → List X
along shown conv at [] = []
along shown conv at (c ∷ heap) = shown at c ++ along shown conv (at + space_of conv c) heap

abbrev pub block_shown : ℕ → Content → List DataBlock
block_shown at (Data bytes) = record { address = at; length = length bytes } ∷ []
block_shown at (Object number) = []

abbrev pub object_shown : ℕ → Content → List ℕ
object_shown at (Data bytes) = []
object_shown at (Object number) = at ∷ []

-- the data blocks of a heap, and the addresses of its objects
abbrev pub data_blocks : Conv → List Content → List DataBlock
data_blocks conv heap = along block_shown conv (heap_at conv) heap

abbrev pub object_addresses : Conv → List Content → List ℕ
object_addresses conv heap = along object_shown conv (heap_at conv) heap

-- the machine holds this heap: its bytes are the image, and its data blocks and objects are those
-- of the heap
pub record Holds (m : MachineView) (heap : List Content) : Type 0 where
  pub memory : m.memory ≡ image m.conv heap
  pub blocks : m.blocks ≡ data_blocks m.conv heap
  pub objects : m.objects ≡ object_addresses m.conv heap

-- whether n bytes at an address lie in the bytes that a data block at `at` holds
abbrev pub lies_in : (at : ℕ) → (held : List ℕ) → (address n : ℕ) → Bool
lies_in at held address n = nat_le at address && nat_le (address + n) (at + length held)

-- a block that stands at `at`, after bytes were written at an address, where they lie in it
abbrev pub content_after : (at : ℕ) → Content → ℕ → List ℕ → Content
content_after at (Data held) address bytes =
    if lies_in at held address (length bytes) then Data (overwritten held (address - at) bytes)
    else Data held
content_after at (Object number) address bytes = Object number

-- the blocks of a heap, the first of which stands at `at`, after such a write
abbrev pub blocks_after : Conv → (at : ℕ) → List Content → ℕ → List ℕ → List Content
blocks_after conv at [] address bytes = []
blocks_after conv at (c ∷ heap) address bytes =
    content_after at c address bytes
    ∷ blocks_after conv (at + space_of conv c) heap address bytes

-- the heap after bytes were written at an address, where they lie in one data block of it
abbrev pub heap_after : Conv → List Content → ℕ → List ℕ → List Content
heap_after conv heap address bytes = blocks_after conv (heap_at conv) heap address bytes

-- the machine after a data block was added
abbrev pub with_data : MachineView → List ℕ → MachineView
with_data m bytes = record m {
  memory = m.memory ++ padded bytes;
  blocks = m.blocks ++ block_shown (VTABLE_AT + length m.memory) (Data bytes);
}

-- the machine after an object was added, whose number is the count of those before it
abbrev pub with_object : MachineView → MachineView
with_object m = record m {
  memory = m.memory ++ padded (content_bytes m.conv (Object (length m.objects)));
  objects = m.objects ++ (VTABLE_AT + length m.memory) ∷ [];
}

-- the n bytes at an address, where they lie in one data block of a heap, whose first block stands
-- at `at`
abbrev pub bytes_along : Conv → (at : ℕ) → List Content → (address n : ℕ) → Option (List ℕ)
bytes_along conv at [] address n = None
bytes_along conv at (Data held ∷ heap) address n =
    if lies_in at held address n then Some (slice_range held (address - at) (address - at + n))
    else bytes_along conv (at + space_of conv (Data held)) heap address n
bytes_along conv at (Object number ∷ heap) address n =
    bytes_along conv (at + space_of conv (Object number)) heap address n

abbrev pub heap_bytes : Conv → List Content → (address n : ℕ) → Option (List ℕ)
heap_bytes conv heap address n = bytes_along conv (heap_at conv) heap address n

-- ---- what the calls of a machine say of every heap that it holds

-- it holds one block more
abbrev pub HoldsMore : (old new : MachineView) → Content → Type 0
HoldsMore old new c = (heap : List Content) → Holds old heap → Holds new (heap ++ c ∷ [])

-- it holds the heap as before
abbrev pub HoldsStill : (old new : MachineView) → Type 0
HoldsStill old new = (heap : List Content) → Holds old heap → Holds new heap

-- it holds the heap with n bytes written at an address, where these lie in one data block
abbrev pub HoldsWritten : (old new : MachineView) → (at n : ℕ) → List ℕ → Type 0
HoldsWritten old new at n bytes =
    Inside old.blocks at n
    → (heap : List Content) → Holds old heap → Holds new (heap_after old.conv heap at bytes)

-- n bytes that lie in one data block of it are read as that block's
abbrev pub ReadsBlock : MachineView → (at n : ℕ) → Option (List ℕ) → Type 0
ReadsBlock m at n read =
    Inside m.blocks at n
    → (heap : List Content) → Holds m heap → read ≡ heap_bytes m.conv heap at n

-- and their number is that of the block's bytes
abbrev pub ReadsBlockNumber : MachineView → (at n : ℕ) → Option ℕ → Type 0
ReadsBlockNumber m at n read =
    Inside m.blocks at n
    → (heap : List Content) → Holds m heap
    → read ≡ option_map number_of (heap_bytes m.conv heap at n)

-- a store of n bytes at an address. The answer tells whether they can be written there; if not,
-- nothing changed. In vtable and heap they change these bytes alone, and among the pushed cells
-- the cells alone. The same address then reads as what was stored
pub record Stores (old new : MachineView) (at n : ℕ) (bytes : List ℕ) (result : Bool) : Type 0 where
  pub readable : IsTrue result ↔ IsReadable old at n
  pub stored : new ≡ written old at bytes
  pub in_memory : InMemory old at n → new ≡ with_memory old at bytes
  pub in_cells : InCells old at n → new ≡ with_cells old at bytes
  pub holds_still : InCells old at n → HoldsStill old new
  pub holds_written : HoldsWritten old new at n bytes
  pub reads_back : IsTrue result → bytes_at new at n ≡ Some bytes
