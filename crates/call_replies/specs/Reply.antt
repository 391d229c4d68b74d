-- What the reply of an object to a call does, as its rule says.
use Rattle.std.specs.Prelude.{ℕ, ◌+◌, ◌-◌, ◌%◌, ◌^◌, Bool, false, not, ◌||◌, is_some, ℤ, pos, List, [], ◌∷◌, ◌++◌, length, fold, slice_get, slice_index, slice_range, option_map, option_and_then, Option, Some, None, if◌then◌else◌}
use Rattle.std.specs.Int.{int_rem_euclid}
use Rattle.std.specs.Option.{option_map_or}
use Rattle.std.specs.Int.RustNames.{unsigned_abs}
use Rattle.xp_base.specs.LittleEndian.{low_bytes, number_of}
use Rattle.raw_block.specs.Bytes.{overwritten}
use Rattle.call_model.specs.declared.ctypes.CType.{CType}
use Rattle.call_model.specs.declared.ctypes.CType.TheVariants.{I8}
use Rattle.call_model.specs.declared.places.Conv.{Conv}
use Rattle.call_model.specs.declared.prototypes.ProtoArg.{ProtoArg}
use Rattle.call_model.specs.Values.{canon, own_len}
use Rattle.call_scripts.specs.declared.script.ReplyItem.{ReplyItem}
use Rattle.call_scripts.specs.declared.script.ReplyItem.TheVariants as items
use Rattle.call_scripts.specs.declared.script.Term.{Term}
use Rattle.call_scripts.specs.declared.script.Term.TheVariants as terms
use Rattle.object_memory.specs.declared.layout.TheConstants.{CELLS_AT}
use Rattle.call_replies.specs.Blocks.{Block, blocks_after, data_at}

-- ---- the call, and the memory

-- what a reply is asked for: whether the method was entered with a frame that a script gave, and
-- was not called through cells; its prototype; and the values that it received
pub record Asked : Type 0 where
  pub entered : Bool
  pub proto : List ProtoArg
  pub values : List ℕ

-- what it can read and write: the bytes of the pushed cells, and the blocks
pub record Memory : Type 0 where
  pub cells : List ℕ
  pub blocks : List Block

-- what it answers, and what it leaves
pub record Replied : Type 0 where
  pub result : ℕ
  pub memory : Memory

-- the type of the argument at position k, which for a value in a cell is the type of the cell; the
-- number of its own bytes; and the value that was received for it
abbrev pub type_in : Asked → ℕ → CType
type_in call k = option_map_or (λ (p : ProtoArg). p.ty) (slice_get call.proto k) I8

abbrev pub own_len_in : Conv → Asked → ℕ → ℕ
own_len_in conv call k = own_len conv (type_in call k)

abbrev pub value_in : Asked → ℕ → ℕ
value_in call k = slice_index call.values k

-- ---- values

-- the own bytes of the cell at position k: those of the pushed cell, and in an entered method those
-- at the address that came, which must lie in one data block
abbrev pub bytes_in_cell : Conv → Asked → Memory → ℕ → Option (List ℕ)
bytes_in_cell conv call memory k =
    if call.entered then data_at memory.blocks (value_in call k) (own_len_in conv call k)
    else Some
    (slice_range memory.cells (value_in call k - CELLS_AT)
    (value_in call k - CELLS_AT + own_len_in conv call k))

-- the value that it holds
abbrev pub in_cell : Conv → Asked → Memory → ℕ → Option ℕ
in_cell conv call memory k =
    option_map
    (λ bytes. canon conv (type_in call k) (number_of bytes))
    (bytes_in_cell conv call memory k)

-- a number modulo 2 ^ 64
abbrev pub modulo_word : ℤ → ℕ
modulo_word n = unsigned_abs (int_rem_euclid n (pos (2 ^ 64)))

-- the value of a term; a rule that is kept has addresses in the place of names
abbrev pub term_value : Conv → Asked → Memory → Term → Option ℕ
term_value conv call memory (terms.Number n) = Some (modulo_word n)
term_value conv call memory (terms.Address name) = None
term_value conv call memory (terms.Arg k) = Some (value_in call k)
term_value conv call memory (terms.InCell k) = in_cell conv call memory k

-- the value of a sum
abbrev pub sum_value : Conv → Asked → Memory → (first : Term) → (second : Option Term) → Option ℕ
sum_value conv call memory first None = term_value conv call memory first
sum_value conv call memory first (Some second) =
    option_and_then
    (λ a. option_map (λ b. (a + b) % 2 ^ 64) (term_value conv call memory second))
    (term_value conv call memory first)

-- ---- writes

-- bytes for an address, in a pushed cell or in a data block
pub record Write : Type 0 where
  pub to_cell : Bool
  pub at : ℕ
  pub bytes : List ℕ

-- the low bytes of a value for the cell at position k: for the pushed cell, and in an entered
-- method for the data at the address that came
abbrev pub cell_write : Conv → Asked → (k value : ℕ) → Write
cell_write conv call k value = record {
  to_cell = not call.entered;
  at = value_in call k;
  bytes = low_bytes (own_len_in conv call k) value;
}

-- bytes for the data so far behind the address that came at position k
abbrev pub data_write : Asked → (k offset : ℕ) → (bytes : List ℕ) → Write
data_write call k offset bytes = record {
  to_cell = false;
  at = (value_in call k + offset) % 2 ^ 64;
  bytes = bytes;
}

-- a write to data is lawful where all its bytes lie in one data block
abbrev pub is_lawful : Memory → Write → Bool
is_lawful memory w = w.to_cell || is_some (data_at memory.blocks w.at (length w.bytes))

abbrev pub lawful : Memory → Write → Option (List Write)
lawful memory w = if is_lawful memory w then Some (w ∷ []) else None

-- what an item writes, where its value is known and its target is lawful
abbrev pub item_writes : Conv → Asked → Memory → ReplyItem → Option (List Write)
item_writes conv call memory (items.Result n) = Some []
item_writes conv call memory (items.Set k first second) =
    option_and_then
    (λ value. lawful memory (cell_write conv call k value))
    (sum_value conv call memory first second)
item_writes conv call memory (items.Fill k offset bytes) =
    lawful memory (data_write call k offset bytes)

-- the writes of all items, where each has its own; all values are those before any write
abbrev pub writes_of : Conv → Asked → Memory → List ReplyItem → Option (List Write)
writes_of conv call memory [] = Some []
writes_of conv call memory (item ∷ rule) =
    option_and_then
    (λ now. option_map (λ later. now ++ later) (writes_of conv call memory rule))
    (item_writes conv call memory item)

abbrev pub written : Memory → Write → Memory
written memory w =
    if w.to_cell
    then record memory { cells = overwritten memory.cells (w.at - CELLS_AT) w.bytes }
    else record memory { blocks = blocks_after memory.blocks w.at w.bytes }

-- ---- replies

-- no rule was told; and what a rule asks for cannot be done
abbrev pub not_implemented : ℕ
not_implemented = 0x80004001

abbrev pub invalid_pointer : ℕ
invalid_pointer = 0x80004003

-- the result of a rule: the last that it names, and zero where it names none
abbrev pub last_result : (before : ℕ) → List ReplyItem → ℕ
last_result before [] = before
last_result before (items.Result n ∷ rule) = last_result n rule
last_result before (items.Set k first second ∷ rule) = last_result before rule
last_result before (items.Fill k offset bytes ∷ rule) = last_result before rule

abbrev pub result_of : List ReplyItem → ℕ
result_of rule = last_result 0 rule

-- an answer that changes nothing
abbrev pub unchanged : Memory → (result : ℕ) → Replied
unchanged memory result = record { result = result; memory = memory }

-- the writes in order, where there are any to make, and the result of the rule
abbrev pub reply_by : Memory → (result : ℕ) → Option (List Write) → Replied
reply_by memory result None = unchanged memory invalid_pointer
reply_by memory result (Some writes) =
    record { result = result; memory = fold written memory writes }

abbrev pub reply : Conv → Option (List ReplyItem) → Asked → Memory → Replied
reply conv None call memory = unchanged memory not_implemented
reply conv (Some rule) call memory =
    reply_by memory (result_of rule) (writes_of conv call memory rule)
