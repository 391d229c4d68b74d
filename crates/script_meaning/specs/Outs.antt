-- What comes out of a call: the values in its cells after the reply, and what is told beside them.
use Rattle.std.specs.Prelude.{ℕ, ◌+◌, ◌*◌, ◌==◌, ℤ, pos, negsuc, int_le, List, [], ◌∷◌, map, slice_index, slice_range, option_and_then, Option, if◌then◌else◌}
use Rattle.std.specs.List.{range_with_len}
use Rattle.std.specs.Int.{w64, cast_signed}
use Rattle.std.specs.Option.{option_map_or}
use Rattle.uuid.specs.Parts.{swap_fields}
use Rattle.call_model.specs.declared.ctypes.CType.{CType}
use Rattle.call_model.specs.declared.places.Conv.{Conv}
use Rattle.call_model.specs.declared.prototypes.Note.{Note}
use Rattle.call_model.specs.declared.prototypes.Note.TheVariants as notes
use Rattle.call_model.specs.declared.prototypes.ProtoArg.{ProtoArg}
use Rattle.call_model.specs.declared.tables.Table.{Table}
use Rattle.call_model.specs.declared.tables.TableIface.{TableIface}
use Rattle.call_model.specs.Tables.{iface_at, iface_with_iid}
use Rattle.call_model.specs.Types.{is_signed}
use Rattle.call_model.specs.Values.{canon, own_len}
use Rattle.invoke_by_index.specs.Arguments.{proto_at}
use Rattle.printed_names.specs.Names.{escaped}
use Rattle.transcript_text.specs.Outs.{elements_word, no_elements_word, no_name_word, out_text}
use Rattle.transcript_text.specs.Texts.{value_text}
use Rattle.xp_base.specs.LittleEndian.{number_of}
use Rattle.call_replies.specs.Blocks.{Block, data_at}
use Rattle.call_replies.specs.Items.{passes_cell}

-- the prototype of a call, the values that were received, and the numbers in the cells and the
-- blocks after the reply
pub record After : Type 0 where
  pub proto : List ProtoArg
  pub values : List ℕ
  pub cells : List ℕ
  pub blocks : List Block

-- ---- values after the call

-- what the own bytes of a cell hold
abbrev pub cell_after : Conv → After → (k : ℕ) → ℕ
cell_after conv after k = canon conv (proto_at after.proto k).ty (slice_index after.cells k)

-- of a value in a cell what its cell holds, and of any other what was received
abbrev pub pattern_after : Conv → After → (k : ℕ) → ℕ
pattern_after conv after k =
    if passes_cell after.proto k then cell_after conv after k else slice_index after.values k

-- a canonical pattern as a number of its type
abbrev pub number_in_type : CType → ℕ → ℤ
number_in_type t p = if is_signed t then cast_signed w64 p else pos p

abbrev pub number_after : Conv → After → (k : ℕ) → ℤ
number_after conv after k =
    number_in_type (proto_at after.proto k).ty (pattern_after conv after k)

-- ---- arrays

-- element i of bytes that are elements of a type, one after the other
abbrev pub element_bytes : (len : ℕ) → (bytes : List ℕ) → (i : ℕ) → List ℕ
element_bytes len bytes i = slice_range bytes (i * len) (i * len + len)

abbrev pub element_text : Conv → CType → (bytes : List ℕ) → (i : ℕ) → List ℕ
element_text conv elem bytes i =
    value_text elem (canon conv elem (number_of (element_bytes (own_len conv elem) bytes i)))

abbrev pub elements_text : Conv → CType → (count : ℕ) → (bytes : List ℕ) → List ℕ
elements_text conv elem count bytes =
    elements_word (map (element_text conv elem bytes) (range_with_len 0 count))

-- the elements at an address, where they lie in one data block
abbrev pub elements_at : Conv → List Block → CType → (address count : ℕ) → List ℕ
elements_at conv blocks elem address count =
    option_map_or
    (elements_text conv elem count)
    (data_at blocks address (count * own_len conv elem))
    no_elements_word

-- the elements that are in use of an array with room for so many. A count of zero has none, and one
-- that is negative or greater than the size cannot be told
abbrev pub array_word : Conv → List Block → CType → (address : ℕ) → (size count : ℤ) → List ℕ
array_word conv blocks elem address size (negsuc n) = no_elements_word
array_word conv blocks elem address size (pos n) =
    if n == 0 then elements_word []
    else if int_le (pos n) size then elements_at conv blocks elem address n
    else no_elements_word

-- ---- interfaces

abbrev pub iface_word : Table → (number : ℕ) → List ℕ
iface_word table number =
    option_map_or
    (λ (i : TableIface). escaped i.name)
    (iface_at table.ifaces number)
    no_name_word

-- the first resolved interface whose IID stands at an address; in memory the first three fields of
-- an IID have their low bytes first
abbrev pub iface_with_iid_at : Table → List Block → (address : ℕ) → Option ℕ
iface_with_iid_at table blocks address =
    option_and_then (λ bytes. iface_with_iid table (swap_fields bytes)) (data_at blocks address 16)

abbrev pub iid_word : Table → List Block → (address : ℕ) → List ℕ
iid_word table blocks address =
    option_map_or (iface_word table) (iface_with_iid_at table blocks address) no_name_word

-- ---- out lines

-- what the note of a value says beside it
abbrev pub beside : Table → Conv → After → Note → (value : ℕ) → List (List ℕ)
beside table conv after notes.Plain value = []
beside table conv after (notes.Count size at elem) value =
    array_word
    conv
    after.blocks
    elem
    value
    (number_after conv after size)
    (number_after conv after at) ∷ []
beside table conv after (notes.IidAt at) value =
    iid_word table after.blocks (pattern_after conv after at) ∷ []
beside table conv after (notes.IfaceOf number) value = iface_word table number ∷ []
beside table conv after notes.Argc value = []
beside table conv after notes.Context value = []

abbrev pub out_line : Table → Conv → After → (k : ℕ) → List ℕ
out_line table conv after k =
    out_text
    k
    (value_text (proto_at after.proto k).ty (pattern_after conv after k))
    (beside table conv after (proto_at after.proto k).note (pattern_after conv after k))
