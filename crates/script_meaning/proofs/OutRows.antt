-- The transcripts of calls out of which arrays, names and bytes come,
-- worked out by hand from the rules of the conventions and of scripts.
use Rattle.std.proofs.Common.{[], ◌∷◌, refl}
use Rattle.std.specs.Prelude.{codes}
use Rattle.call_model.specs.declared.places.Conv.TheVariants.{SysV64}
use Rattle.std.specs.Fmt.{digits}
use Rattle.hex.specs.Hex.{decode_pairs}
use Rattle.uuid.specs.Text.{by_index}
use Rattle.call_model.specs.Tables.{lineage_within, member_within, slots_within}
use Rattle.object_memory.specs.Cells.{numbers}
use Rattle.transcript_text.specs.Texts.{frame_text}
use Rattle.xp_base.specs.LittleEndian.{low_bytes}
use Rattle.script_meaning.specs.Calls.{call_sights, call_text}
use Rattle.script_meaning.specs.Chain.{chain_within}
use Rattle.script_meaning.specs.Enters.{entered_frame}
use Rattle.script_meaning.specs.Members.{member_named}
use Rattle.script_meaning.specs.Step.{call_of, enter_of, new_context, new_data, new_forwarder, new_object, new_rule, outcome, poked, shown_block, shown_variable}
use Rattle.script_meaning.specs.Transcript.{static}
use Rattle.call_scripts.specs.Reading as reading
use Rattle.line_words.specs.Words as words
use Rattle.script_meaning.proofs.Says.{Says}
use Rattle.script_meaning.proofs.RowTables.{adding, arrays, makers, parts, strings, titles}

-- an array with its count
abbrev an_array : Type 0
an_array =
    Says arrays SysV64
    (codes "data buf 0100feff0300"
    ∷ codes "object o nsIL"
    ∷ codes "reply o nsIL.list a0=3 a1=@buf"
    ∷ codes "call o nsIL.list ->n ->v" ∷ [])
    (codes "> data buf 0100feff0300"
    ∷ codes "at 107d0"
    ∷ codes "> object o nsIL"
    ∷ codes "at 107e0"
    ∷ codes "> reply o nsIL.list a0=3 a1=@buf"
    ∷ codes "ok"
    ∷ codes "> call o nsIL.list ->n ->v"
    ∷ codes "slot 3 entry 1030"
    ∷ codes "gpr 107e0 40000000 40000008 0 0 0"
    ∷ codes "fpr 0 0 0 0 0 0 0 0"
    ∷ codes "stack -"
    ∷ codes "got 0x40000000 0x40000008"
    ∷ codes "result 00000000"
    ∷ codes "out 0 3"
    ∷ codes "out 1 0x107d0 [1 -2 3]" ∷ [])

-- as many elements as are in use
abbrev a_part : Type 0
a_part =
    Says parts SysV64
    (codes "data buf 0100feff0300"
    ∷ codes "object o nsIP"
    ∷ codes "reply o nsIP.part a1=2 a2=@buf"
    ∷ codes "call o nsIP.part 3 ->m ->v" ∷ [])
    (codes "> data buf 0100feff0300"
    ∷ codes "at 107d0"
    ∷ codes "> object o nsIP"
    ∷ codes "at 107e0"
    ∷ codes "> reply o nsIP.part a1=2 a2=@buf"
    ∷ codes "ok"
    ∷ codes "> call o nsIP.part 3 ->m ->v"
    ∷ codes "slot 3 entry 1030"
    ∷ codes "gpr 107e0 3 40000008 40000010 0 0"
    ∷ codes "fpr 0 0 0 0 0 0 0 0"
    ∷ codes "stack -"
    ∷ codes "got 3 0x40000008 0x40000010"
    ∷ codes "result 00000000"
    ∷ codes "out 1 2"
    ∷ codes "out 2 0x107d0 [1 -2]" ∷ [])

-- more elements than there is room for
abbrev too_many : Type 0
too_many =
    Says parts SysV64
    (codes "data buf 0100feff0300"
    ∷ codes "object o nsIP"
    ∷ codes "reply o nsIP.part a1=4 a2=@buf"
    ∷ codes "call o nsIP.part 3 ->m ->v" ∷ [])
    (codes "> data buf 0100feff0300"
    ∷ codes "at 107d0"
    ∷ codes "> object o nsIP"
    ∷ codes "at 107e0"
    ∷ codes "> reply o nsIP.part a1=4 a2=@buf"
    ∷ codes "ok"
    ∷ codes "> call o nsIP.part 3 ->m ->v"
    ∷ codes "slot 3 entry 1030"
    ∷ codes "gpr 107e0 3 40000008 40000010 0 0"
    ∷ codes "fpr 0 0 0 0 0 0 0 0"
    ∷ codes "stack -"
    ∷ codes "got 3 0x40000008 0x40000010"
    ∷ codes "result 00000000"
    ∷ codes "out 1 4"
    ∷ codes "out 2 0x107d0 [?]" ∷ [])

-- no elements
abbrev none : Type 0
none =
    Says parts SysV64
    (codes "data buf 0100feff0300"
    ∷ codes "object o nsIP"
    ∷ codes "reply o nsIP.part a1=0 a2=@buf"
    ∷ codes "call o nsIP.part 3 ->m ->v" ∷ [])
    (codes "> data buf 0100feff0300"
    ∷ codes "at 107d0"
    ∷ codes "> object o nsIP"
    ∷ codes "at 107e0"
    ∷ codes "> reply o nsIP.part a1=0 a2=@buf"
    ∷ codes "ok"
    ∷ codes "> call o nsIP.part 3 ->m ->v"
    ∷ codes "slot 3 entry 1030"
    ∷ codes "gpr 107e0 3 40000008 40000010 0 0"
    ∷ codes "fpr 0 0 0 0 0 0 0 0"
    ∷ codes "stack -"
    ∷ codes "got 3 0x40000008 0x40000010"
    ∷ codes "result 00000000"
    ∷ codes "out 1 0"
    ∷ codes "out 2 0x107d0 []" ∷ [])

-- the characters of a string with a size
abbrev a_sized_string : Type 0
a_sized_string =
    Says strings SysV64
    (codes "data b 6142c3"
    ∷ codes "object o nsIS"
    ∷ codes "reply o nsIS.read a1=@b"
    ∷ codes "call o nsIS.read 3 ->s" ∷ [])
    (codes "> data b 6142c3"
    ∷ codes "at 107d0"
    ∷ codes "> object o nsIS"
    ∷ codes "at 107e0"
    ∷ codes "> reply o nsIS.read a1=@b"
    ∷ codes "ok"
    ∷ codes "> call o nsIS.read 3 ->s"
    ∷ codes "slot 3 entry 1030"
    ∷ codes "gpr 107e0 3 40000008 0 0 0"
    ∷ codes "fpr 0 0 0 0 0 0 0 0"
    ∷ codes "stack -"
    ∷ codes "got 3 0x40000008"
    ∷ codes "result 00000000"
    ∷ codes "out 1 0x107d0 [97 66 195]" ∷ [])

-- bytes behind the address of a string
abbrev a_string_class : Type 0
a_string_class =
    Says titles SysV64
    (codes "data b 00000000"
    ∷ codes "object o nsIS"
    ∷ codes "reply o nsIS.get:title [a0+1]=4142"
    ∷ codes "call o nsIS.get:title @b"
    ∷ codes "show b" ∷ [])
    (codes "> data b 00000000"
    ∷ codes "at 107d0"
    ∷ codes "> object o nsIS"
    ∷ codes "at 107e0"
    ∷ codes "> reply o nsIS.get:title [a0+1]=4142"
    ∷ codes "ok"
    ∷ codes "> call o nsIS.get:title @b"
    ∷ codes "slot 3 entry 1030"
    ∷ codes "gpr 107e0 107d0 0 0 0 0"
    ∷ codes "fpr 0 0 0 0 0 0 0 0"
    ∷ codes "stack -"
    ∷ codes "got 0x107d0"
    ∷ codes "result 00000000"
    ∷ codes "> show b"
    ∷ codes "00414200" ∷ [])

-- the interface whose IID stands in memory, and a call through a variable
abbrev an_interface_by_its_iid : Type 0
an_interface_by_its_iid =
    Says adding SysV64
    (codes "data i iid 01020304-0506-0708-090a-0b0c0d0e0f10"
    ∷ codes "object o nsIT"
    ∷ codes "reply o nsISupports.QueryInterface a1=@o"
    ∷ codes "call o nsISupports.QueryInterface @i ->p"
    ∷ codes "call $p nsIT.add 1 1 ->s"
    ∷ codes "show i" ∷ [])
    (codes "> data i iid 01020304-0506-0708-090a-0b0c0d0e0f10"
    ∷ codes "at 107d0"
    ∷ codes "> object o nsIT"
    ∷ codes "at 107e0"
    ∷ codes "> reply o nsISupports.QueryInterface a1=@o"
    ∷ codes "ok"
    ∷ codes "> call o nsISupports.QueryInterface @i ->p"
    ∷ codes "slot 0 entry 1000"
    ∷ codes "gpr 107e0 107d0 40000008 0 0 0"
    ∷ codes "fpr 0 0 0 0 0 0 0 0"
    ∷ codes "stack -"
    ∷ codes "got 0x107d0 0x40000008"
    ∷ codes "result 00000000"
    ∷ codes "out 1 0x107e0 nsIT"
    ∷ codes "> call $p nsIT.add 1 1 ->s"
    ∷ codes "slot 3 entry 1030"
    ∷ codes "gpr 107e0 1 1 40000010 0 0"
    ∷ codes "fpr 0 0 0 0 0 0 0 0"
    ∷ codes "stack -"
    ∷ codes "got 1 1 0x40000010"
    ∷ codes "result 80004001"
    ∷ codes "out 2 0"
    ∷ codes "> show i"
    ∷ codes "0403020106050807090a0b0c0d0e0f10" ∷ [])

-- the interface that a type names, with a name that is no word
abbrev an_interface_by_its_number : Type 0
an_interface_by_its_number =
    Says makers SysV64
    (codes "object o nsIM"
    ∷ codes "reply o nsIM.make a0=@o"
    ∷ codes "call o nsIM.make ->x" ∷ [])
    (codes "> object o nsIM"
    ∷ codes "at 107d0"
    ∷ codes "> reply o nsIM.make a0=@o"
    ∷ codes "ok"
    ∷ codes "> call o nsIM.make ->x"
    ∷ codes "slot 3 entry 1030"
    ∷ codes "gpr 107d0 40000000 0 0 0 0"
    ∷ codes "fpr 0 0 0 0 0 0 0 0"
    ∷ codes "stack -"
    ∷ codes "got 0x40000000"
    ∷ codes "result 00000000"
    ∷ codes "out 0 0x107d0 ns\\20I\\5c" ∷ [])

-- each follows by computing
they_say :
    an_array × a_part × too_many × none × a_sized_string × a_string_class ×
    an_interface_by_its_iid × an_interface_by_its_number
unfolding digits decode_pairs by_index lineage_within member_within slots_within numbers frame_text
    low_bytes call_sights call_text chain_within entered_frame member_named call_of enter_of
    new_context new_data new_forwarder new_object new_rule outcome poked shown_block
    shown_variable static words.after words.before reading.act_of reading.arg_of
    reading.bytes_of words.cut_at reading.decimal_of reading.digits_of reading.fill_of
    reading.fill_kind_of reading.frame_item_of reading.iid_of reading.item_of reading.line_of
    reading.member_of reading.method_of reading.name_of reading.number_of reading.out_of
    reading.set_of reading.sum_of reading.target_of reading.term_of reading.value_of
    reading.words_line_of reading.conv_of
they_say = (refl, refl, refl, refl, refl, refl, refl, refl)
