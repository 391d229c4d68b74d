-- What the lines of a script act on: the blocks of the heap, the rules of replies, the variables,
-- and the address of the context.
use Rattle.std.specs.Prelude.{ℕ, ◌+◌, ◌==◌, ◌&&◌, nat_le, Bool, true, false, ℤ, pos, negsuc, List, [], ◌∷◌, ◌++◌, find, count_by, sum_by, Option, Some, None, if◌then◌else◌}
use Rattle.std.specs.Str.{bytes_eq}
use Rattle.call_model.specs.declared.places.Conv.{Conv}
use Rattle.call_scripts.specs.declared.script.ReplyItem.{ReplyItem}
use Rattle.object_memory.specs.declared.layout.TheConstants.{HEAP_LIMIT}
use Rattle.object_memory.specs.Heap.{heap_at, space_of}
use Rattle.call_replies.specs.Blocks.{Block, Held, Data, Object, Forwarder, blocks_after, content_of}

abbrev pub Name : Type 0
Name = List ℕ

-- how an object answers the calls of a slot: what the items of a `reply` line ask for, with
-- numbers in the place of the names of blocks
abbrev pub Rule : Type 0
Rule = List ReplyItem

-- the rules, by an object's number and a slot
abbrev pub Rules : Type 0
Rules = (object slot : ℕ) → Option Rule

abbrev pub Variables : Type 0
Variables = (name : Name) → Option ℤ

pub record State : Type 0 where
  pub blocks : List Block
  pub rules : Rules
  pub variables : Variables
  pub context : ℕ

-- before the first line
abbrev pub empty : State
empty = record { blocks = []; rules = λ object slot. None; variables = λ name. None; context = 0 }

-- ---- blocks

abbrev pub named : State → Name → Option Block
named state name = find (λ (b : Block). bytes_eq b.name name) state.blocks

abbrev pub is_object : Held → Bool
is_object (Data bytes) = false
is_object (Object number iface) = true
is_object (Forwarder number iface target own) = true

abbrev pub has_number : ℕ → Held → Bool
has_number n (Data bytes) = false
has_number n (Object number iface) = number == n
has_number n (Forwarder number iface target own) = number == n

-- the number of an object; 0 for bytes
abbrev pub number_in : Held → ℕ
number_in (Data bytes) = 0
number_in (Object number iface) = number
number_in (Forwarder number iface target own) = number

-- the number of an object's interface; bytes have none, which is 0
abbrev pub iface_in : Held → ℕ
iface_in (Data bytes) = 0
iface_in (Object number iface) = iface
iface_in (Forwarder number iface target own) = iface

abbrev pub object_numbered : List Block → ℕ → Option Block
object_numbered blocks n = find (λ (b : Block). has_number n b.held) blocks

-- the object that begins at an address; there is none at a number below zero
abbrev pub object_at : State → ℤ → Option Block
object_at state (pos a) = find (λ (b : Block). is_object b.held && (b.at == a)) state.blocks
object_at state (negsuc n) = None

-- the bytes that the blocks occupy on the heap
abbrev pub occupied_by : Conv → List Block → ℕ
occupied_by conv blocks = sum_by (λ (b : Block). space_of conv (content_of b.held)) blocks

-- the address of the next block
abbrev pub next_at : Conv → State → ℕ
next_at conv state = heap_at conv + occupied_by conv state.blocks

-- the heap has room for a block that occupies so many bytes
abbrev pub has_room : Conv → State → (space : ℕ) → Bool
has_room conv state space = nat_le (occupied_by conv state.blocks + space) HEAP_LIMIT

-- the number of the next object: as many were made before it
abbrev pub next_number : State → ℕ
next_number state = count_by (λ (b : Block). is_object b.held) state.blocks

-- ---- what lines change

abbrev pub with_block : Conv → State → Name → Held → State
with_block conv state name held = record state {
  blocks = state.blocks ++ record { name = name; at = next_at conv state; held = held } ∷ [];
}

abbrev pub with_bytes : State → (address : ℕ) → (bytes : List ℕ) → State
with_bytes state address bytes = record state {
  blocks = blocks_after state.blocks address bytes;
}

abbrev pub ruled : Rules → (object slot : ℕ) → Rule → Rules
ruled rules object slot rule o s =
    if (object == o) && (slot == s) then Some rule else rules o s

abbrev pub with_rule : State → (object slot : ℕ) → Rule → State
with_rule state object slot rule = record state { rules = ruled state.rules object slot rule }

-- a name stands for this from now on
abbrev pub learned : {X : Type 0} → (Name → Option X) → Name → X → Name → Option X
learned known name now other = if bytes_eq name other then Some now else known other
