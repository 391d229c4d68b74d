-- The blocks of a script: what each is called, where it stands, and what it holds.
use Rattle.std.specs.Prelude.{◌≡◌, ℕ, ◌+◌, ◌-◌, ◌&&◌, nat_lt, List, [], ◌∷◌, length, map, slice_range, Option, Some, None, if◌then◌else◌}
use Rattle.std.specs.Option.{option_or}
use Rattle.call_model.specs.declared.places.Conv.{Conv}
use Rattle.raw_block.specs.Bytes.{overwritten}
use Rattle.object_memory.specs.Heap.{Content, Data as DataContent, Object as ObjectContent, Holds, heap_at, lies_in, space_of}
use Rattle.object_memory.specs.Memory.{MachineView}

-- bytes; an object, by its number and the number of its interface; or an object that hands its
-- calls on to the object of another number, under a convention of its own where it has one
pub data Held : Type 0 where
  Data : (bytes : List ℕ) → Held
  Object : (number iface : ℕ) → Held
  Forwarder : (number iface target : ℕ) → (own : Option Conv) → Held

pub record Block : Type 0 where
  pub name : List ℕ
  pub at : ℕ
  pub held : Held

-- what it is on the heap of a machine: a data block, or an object
abbrev pub content_of : Held → Content
content_of (Data bytes) = DataContent bytes
content_of (Object number iface) = ObjectContent number
content_of (Forwarder number iface target own) = ObjectContent number

abbrev pub contents : List Block → List Content
contents blocks = map (λ b. content_of b.held) blocks

-- each block stands where the space of the one before it ends, and the first at the address `at`
abbrev pub ArePlaced : Conv → (at : ℕ) → List Block → Type 0
ArePlaced conv at [] = Unit {0}
ArePlaced conv at (b ∷ blocks) =
    (b.at ≡ at) × ArePlaced conv (at + space_of conv (content_of b.held)) blocks

-- the machine holds the blocks, and each stands where the script takes it to be
pub record HoldsBlocks (m : MachineView) (blocks : List Block) : Type 0 where
  pub heap : Holds m (contents blocks)
  pub placed : ArePlaced m.conv (heap_at m.conv) blocks

-- ---- bytes of data

-- n bytes at an address, where there is one at least and all lie in the data of a block at `at`
abbrev pub bytes_in : (at : ℕ) → Held → (address n : ℕ) → Option (List ℕ)
bytes_in at (Data bytes) address n =
    if nat_lt 0 n && lies_in at bytes address n
    then Some (slice_range bytes (address - at) (address - at + n))
    else None
bytes_in at (Object number iface) address n = None
bytes_in at (Forwarder number iface target own) address n = None

-- the same, where all lie in one data block
abbrev pub data_at : List Block → (address n : ℕ) → Option (List ℕ)
data_at [] address n = None
data_at (b ∷ blocks) address n =
    option_or (bytes_in b.at b.held address n) (data_at blocks address n)

-- what a block at `at` holds after bytes were written at an address, where they lie in its data
abbrev pub held_after : (at : ℕ) → Held → (address : ℕ) → (bytes : List ℕ) → Held
held_after at (Data old) address bytes =
    if lies_in at old address (length bytes) then Data (overwritten old (address - at) bytes)
    else Data old
held_after at (Object number iface) address bytes = Object number iface
held_after at (Forwarder number iface target own) address bytes = Forwarder number iface target own

abbrev pub block_after : (address : ℕ) (bytes : List ℕ) → Block → Block
block_after address bytes b = record b { held = held_after b.at b.held address bytes }

-- the blocks after bytes were written at an address, where they lie in one data block
abbrev pub blocks_after : List Block → (address : ℕ) → (bytes : List ℕ) → List Block
blocks_after blocks address bytes = map (block_after address bytes) blocks
