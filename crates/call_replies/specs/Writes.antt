-- The cells that a call has, the writes of its reply on a machine, and what they leave.
use Rattle.std.specs.Prelude.{◌≡◌, ◌⊎◌, ℕ, ◌+◌, ◌%◌, ◌^◌, ◌<◌, ◌≤◌, Bool, true, not, ◌&&◌, ◌||◌, ◌==◌, nat_le, List, [], ◌∷◌, ◌++◌, length, fold, slice_index, All}
use Rattle.call_model.specs.declared.places.Conv.{Conv}
use Rattle.call_model.specs.declared.prototypes.ProtoArg.{ProtoArg}
use Rattle.call_scripts.specs.declared.script.ReplyItem.{ReplyItem}
use Rattle.call_scripts.specs.declared.script.ReplyItem.TheVariants as items
use Rattle.object_memory.specs.declared.layout.TheConstants.{CELLS_AT}
use Rattle.object_memory.specs.Memory as machines
use Rattle.object_memory.specs.Memory.{MachineView}
use Rattle.call_replies.specs.Blocks.{Block, HoldsBlocks}
use Rattle.call_replies.specs.Items.{is_by_cell}
use Rattle.call_replies.specs.Reply.{Asked, Memory, Replied, Write, cell_write, data_write, own_len_in, value_in}

-- ---- cells

-- a pushed cell begins at the address
abbrev pub is_pushed : (cells : List ℕ) → (at : ℕ) → Bool
is_pushed cells at =
    nat_le CELLS_AT at && (at % 8 == 0) && nat_le (at + 8) (CELLS_AT + length cells)

-- from position k on, each value that is passed in a cell is passed in a pushed one
abbrev pub have_cells : (cells values : List ℕ) → (k : ℕ) → List ProtoArg → Bool
have_cells cells values k [] = true
have_cells cells values k (p ∷ proto) =
    (not (is_by_cell p.pass) || is_pushed cells (slice_index values k))
    && have_cells cells values (k + 1) proto

abbrev pub has_cells : Asked → (cells : List ℕ) → Bool
has_cells call cells = call.entered || have_cells cells call.values 0 call.proto

-- ---- writes

-- what each item writes, where the values are given: none has a value but a sum
abbrev pub planned_for : Conv → Asked → ReplyItem → (value : ℕ) → List Write
planned_for conv call (items.Result n) value = []
planned_for conv call (items.Set k first second) value = cell_write conv call k value ∷ []
planned_for conv call (items.Fill k offset bytes) value = data_write call k offset bytes ∷ []

abbrev pub planned : Conv → Asked → List ReplyItem → (values : List ℕ) → List Write
planned conv call [] values = []
planned conv call (item ∷ rule) [] = []
planned conv call (item ∷ rule) (value ∷ values) =
    planned_for conv call item value ++ planned conv call rule values

-- the machine after writes, in order
abbrev pub after_writes : MachineView → List Write → MachineView
after_writes m writes = fold (λ m (w : Write). machines.written m w.at w.bytes) m writes

-- the bytes from `at` on, so many, have none at an address
abbrev pub Misses : (at n address : ℕ) → Type 0
Misses at n address = (address < at) ⊎ (at + n ≤ address)

-- the target of an item has no byte at an address
abbrev pub MissesTarget : Conv → Asked → (address : ℕ) → ReplyItem → Type 0
MissesTarget conv call address (items.Result n) = Unit {0}
MissesTarget conv call address (items.Set k first second) =
    Misses (value_in call k) (own_len_in conv call k) address
MissesTarget conv call address (items.Fill k offset bytes) =
    Misses ((value_in call k + offset) % 2 ^ 64) (length bytes) address

-- a byte that is no target of the rule is read as before
abbrev pub LeavesOthers : Asked → List ReplyItem → (before after : MachineView) → Type 0
LeavesOthers call rule before after =
    (address : ℕ) → All (MissesTarget before.conv call address) rule
    → machines.number_at after address 1 ≡ machines.number_at before address 1

-- vtable, heap and cells may have other bytes, as many as before; all else is as before
pub record SameButBytes (before after : MachineView) : Type 0 where
  pub same : after ≡ record before { memory = after.memory; cells = after.cells }
  pub memory_len : length after.memory ≡ length before.memory
  pub cells_len : length after.cells ≡ length before.cells

-- the machine and the answer are those of the reply
pub record IsReply (replied : Replied) (after : MachineView) (result : ℕ) : Type 0 where
  pub result_is : result ≡ replied.result
  pub cells_are : after.cells ≡ replied.memory.cells
  pub holds : HoldsBlocks after replied.memory.blocks

abbrev pub asked_by : (entered : Bool) → List ProtoArg → (values : List ℕ) → Asked
asked_by entered proto values = record { entered = entered; proto = proto; values = values }

abbrev pub memory_of : MachineView → List Block → Memory
memory_of m blocks = record { cells = m.cells; blocks = blocks }
