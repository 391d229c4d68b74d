-- The transcripts of calls,
-- worked out by hand from the rules of the conventions and of scripts.
use Rattle.std.proofs.Common.{[], ◌∷◌, refl}
use Rattle.std.specs.Prelude.{codes}
use Rattle.call_model.specs.declared.places.Conv.TheVariants.{SysV64, I386, Aapcs64, Ms64, Aapcs32}
use Rattle.std.specs.Fmt.{digits}
use Rattle.hex.specs.Hex.{decode_pairs}
use Rattle.uuid.specs.Text.{by_index}
use Rattle.call_model.specs.Tables.{lineage_within, member_within, slots_within}
use Rattle.object_memory.specs.Cells.{numbers}
use Rattle.transcript_text.specs.Texts.{frame_text}
use Rattle.xp_base.specs.LittleEndian.{low_bytes}
use Rattle.script_meaning.specs.Calls.{call_sights, call_text}
use Rattle.script_meaning.specs.Chain.{chain_within}
use Rattle.script_meaning.specs.Enters.{entered_frame}
use Rattle.script_meaning.specs.Members.{member_named}
use Rattle.script_meaning.specs.Step.{call_of, enter_of, new_context, new_data, new_forwarder, new_object, new_rule, outcome, poked, shown_block, shown_variable}
use Rattle.script_meaning.specs.Transcript.{static}
use Rattle.call_scripts.specs.Reading as reading
use Rattle.line_words.specs.Words as words
use Rattle.script_meaning.proofs.Says.{Says}
use Rattle.script_meaning.proofs.RowTables.{adding, contexts, mixed, optionals, padded, seven}

-- a reply with a sum
abbrev a_sum : Type 0
a_sum =
    Says adding SysV64
    (codes "object o nsIT"
    ∷ codes "reply o nsIT.add a2=$a0+$a1"
    ∷ codes "call o nsIT.add 2 -1 ->s" ∷ [])
    (codes "> object o nsIT"
    ∷ codes "at 107d0"
    ∷ codes "> reply o nsIT.add a2=$a0+$a1"
    ∷ codes "ok"
    ∷ codes "> call o nsIT.add 2 -1 ->s"
    ∷ codes "slot 3 entry 1030"
    ∷ codes "gpr 107d0 2 ffffffffffffffff 40000010 0 0"
    ∷ codes "fpr 0 0 0 0 0 0 0 0"
    ∷ codes "stack -"
    ∷ codes "got 2 -1 0x40000010"
    ∷ codes "result 00000000"
    ∷ codes "out 2 1" ∷ [])

-- the same where all arguments are on the stack
abbrev a_sum_on_the_stack : Type 0
a_sum_on_the_stack =
    Says adding I386
    (codes "object o nsIT"
    ∷ codes "reply o nsIT.add a2=$a0+$a1"
    ∷ codes "call o nsIT.add 2 -1 ->s" ∷ [])
    (codes "> object o nsIT"
    ∷ codes "at 103f0"
    ∷ codes "> reply o nsIT.add a2=$a0+$a1"
    ∷ codes "ok"
    ∷ codes "> call o nsIT.add 2 -1 ->s"
    ∷ codes "slot 3 entry 1030"
    ∷ codes "gpr -"
    ∷ codes "fpr -"
    ∷ codes "stack f003010002000000ffffffff10000040"
    ∷ codes "got 2 -1 0x40000010"
    ∷ codes "result 00000000"
    ∷ codes "out 2 1" ∷ [])

-- the same with eight general registers
abbrev a_sum_on_arm : Type 0
a_sum_on_arm =
    Says adding Aapcs64
    (codes "object o nsIT"
    ∷ codes "reply o nsIT.add a2=$a0+$a1"
    ∷ codes "call o nsIT.add 2 -1 ->s" ∷ [])
    (codes "> object o nsIT"
    ∷ codes "at 107d0"
    ∷ codes "> reply o nsIT.add a2=$a0+$a1"
    ∷ codes "ok"
    ∷ codes "> call o nsIT.add 2 -1 ->s"
    ∷ codes "slot 3 entry 1030"
    ∷ codes "gpr 107d0 2 ffffffffffffffff 40000010 0 0 0 0"
    ∷ codes "fpr 0 0 0 0 0 0 0 0"
    ∷ codes "stack -"
    ∷ codes "got 2 -1 0x40000010"
    ∷ codes "result 00000000"
    ∷ codes "out 2 1" ∷ [])

-- the same with a home on the stack
abbrev a_sum_by_position : Type 0
a_sum_by_position =
    Says adding Ms64
    (codes "object o nsIT"
    ∷ codes "reply o nsIT.add a2=$a0+$a1"
    ∷ codes "call o nsIT.add 2 -1 ->s" ∷ [])
    (codes "> object o nsIT"
    ∷ codes "at 107d0"
    ∷ codes "> reply o nsIT.add a2=$a0+$a1"
    ∷ codes "ok"
    ∷ codes "> call o nsIT.add 2 -1 ->s"
    ∷ codes "slot 3 entry 1030"
    ∷ codes "gpr 107d0 2 ffffffffffffffff 40000010"
    ∷ codes "fpr 0 0 0 0"
    ∷ codes "stack 0000000000000000000000000000000000000000000000000000000000000000"
    ∷ codes "got 2 -1 0x40000010"
    ∷ codes "result 00000000"
    ∷ codes "out 2 1" ∷ [])

-- a result that a rule names, until the next rule
abbrev a_named_result : Type 0
a_named_result =
    Says adding SysV64
    (codes "object o nsIT"
    ∷ codes "reply o nsIT.add a2=7 result=80004005"
    ∷ codes "call o nsIT.add 1 2 ->s"
    ∷ codes "show $s"
    ∷ codes "reply o nsIT.add a2=7"
    ∷ codes "call o nsIT.add 1 2 ->s" ∷ [])
    (codes "> object o nsIT"
    ∷ codes "at 107d0"
    ∷ codes "> reply o nsIT.add a2=7 result=80004005"
    ∷ codes "ok"
    ∷ codes "> call o nsIT.add 1 2 ->s"
    ∷ codes "slot 3 entry 1030"
    ∷ codes "gpr 107d0 1 2 40000010 0 0"
    ∷ codes "fpr 0 0 0 0 0 0 0 0"
    ∷ codes "stack -"
    ∷ codes "got 1 2 0x40000010"
    ∷ codes "result 80004005"
    ∷ codes "out 2 7"
    ∷ codes "> show $s"
    ∷ codes "7"
    ∷ codes "> reply o nsIT.add a2=7"
    ∷ codes "ok"
    ∷ codes "> call o nsIT.add 1 2 ->s"
    ∷ codes "slot 3 entry 1030"
    ∷ codes "gpr 107d0 1 2 40000010 0 0"
    ∷ codes "fpr 0 0 0 0 0 0 0 0"
    ∷ codes "stack -"
    ∷ codes "got 1 2 0x40000010"
    ∷ codes "result 00000000"
    ∷ codes "out 2 7" ∷ [])

-- more arguments than registers
abbrev seven_numbers : Type 0
seven_numbers =
    Says seven SysV64
    (codes "object o nsI7"
    ∷ codes "call o nsI7.seven 1 2 3 4 5 6 7" ∷ [])
    (codes "> object o nsI7"
    ∷ codes "at 107d0"
    ∷ codes "> call o nsI7.seven 1 2 3 4 5 6 7"
    ∷ codes "slot 3 entry 1030"
    ∷ codes "gpr 107d0 1 2 3 4 5"
    ∷ codes "fpr 0 0 0 0 0 0 0 0"
    ∷ codes "stack 06000000000000000700000000000000"
    ∷ codes "got 1 2 3 4 5 6 7"
    ∷ codes "result 80004001" ∷ [])

-- more floats than registers
abbrev floats : Type 0
floats =
    Says mixed SysV64
    (codes "object o nsIM"
    ∷ codes "call o nsIM.mix 0x1 0x2 7 0x3 0x4 0x5 0x6 0x7 0x8 0x9" ∷ [])
    (codes "> object o nsIM"
    ∷ codes "at 107d0"
    ∷ codes "> call o nsIM.mix 0x1 0x2 7 0x3 0x4 0x5 0x6 0x7 0x8 0x9"
    ∷ codes "slot 3 entry 1030"
    ∷ codes "gpr 107d0 7 0 0 0 0"
    ∷ codes "fpr 1 2 3 4 5 6 7 8"
    ∷ codes "stack 0900000000000000"
    ∷ codes "got 0x1 0x2 7 0x3 0x4 0x5 0x6 0x7 0x8 0x9"
    ∷ codes "result 80004001" ∷ [])

-- the same where a position has one register, of either class
abbrev floats_by_position : Type 0
floats_by_position =
    Says mixed Ms64
    (codes "object o nsIM"
    ∷ codes "call o nsIM.mix 0x1 0x2 7 0x3 0x4 0x5 0x6 0x7 0x8 0x9" ∷ [])
    (codes "> object o nsIM"
    ∷ codes "at 107d0"
    ∷ codes "> call o nsIM.mix 0x1 0x2 7 0x3 0x4 0x5 0x6 0x7 0x8 0x9"
    ∷ codes "slot 3 entry 1030"
    ∷ codes "gpr 107d0 0 0 7"
    ∷ codes "fpr 0 1 2 0"
    ∷ codes "stack 00000000000000000000000000000000000000000000000000000000000000000300000000000000040000000000000005000000000000000600000000000000070000000000000008000000000000000900000000000000"
    ∷ codes "got 0x1 0x2 7 0x3 0x4 0x5 0x6 0x7 0x8 0x9"
    ∷ codes "result 80004001" ∷ [])

-- a wide value at an odd word
abbrev unaligned : Type 0
unaligned =
    Says padded I386
    (codes "object o nsIP"
    ∷ codes "call o nsIP.pad -2 1 255" ∷ [])
    (codes "> object o nsIP"
    ∷ codes "at 103f0"
    ∷ codes "> call o nsIP.pad -2 1 255"
    ∷ codes "slot 3 entry 1030"
    ∷ codes "gpr -"
    ∷ codes "fpr -"
    ∷ codes "stack f0030100feffffffffffffff01000000ff000000"
    ∷ codes "got -2 1 255"
    ∷ codes "result 80004001" ∷ [])

-- the same behind an odd word that is left free
abbrev aligned : Type 0
aligned =
    Says padded Aapcs32
    (codes "object o nsIP"
    ∷ codes "call o nsIP.pad -2 1 255" ∷ [])
    (codes "> object o nsIP"
    ∷ codes "at 103f0"
    ∷ codes "> call o nsIP.pad -2 1 255"
    ∷ codes "slot 3 entry 1030"
    ∷ codes "gpr -"
    ∷ codes "fpr -"
    ∷ codes "stack f003010000000000feffffffffffffff01000000ff000000"
    ∷ codes "got -2 1 255"
    ∷ codes "result 80004001" ∷ [])

-- an argument that is left out, and the count of those that are given
abbrev optional_arguments : Type 0
optional_arguments =
    Says optionals SysV64
    (codes "object o nsIO"
    ∷ codes "reply o nsIO.pick a4=$a3"
    ∷ codes "call o nsIO.pick 5 6 _ ->r" ∷ [])
    (codes "> object o nsIO"
    ∷ codes "at 107d0"
    ∷ codes "> reply o nsIO.pick a4=$a3"
    ∷ codes "ok"
    ∷ codes "> call o nsIO.pick 5 6 _ ->r"
    ∷ codes "slot 3 entry 1030"
    ∷ codes "gpr 107d0 5 6 0 1 40000020"
    ∷ codes "fpr 0 0 0 0 0 0 0 0"
    ∷ codes "stack -"
    ∷ codes "got 5 6 0 1 0x40000020"
    ∷ codes "result 00000000"
    ∷ codes "out 4 1" ∷ [])

-- the address of a context, in a method and in a setter
abbrev a_context : Type 0
a_context =
    Says contexts SysV64
    (codes "data c 00"
    ∷ codes "object o nsIC"
    ∷ codes "context @c"
    ∷ codes "reply o nsIC.ctx a4=$a3"
    ∷ codes "call o nsIC.ctx 5 6 ->r"
    ∷ codes "call o nsIC.set:x 7" ∷ [])
    (codes "> data c 00"
    ∷ codes "at 107d0"
    ∷ codes "> object o nsIC"
    ∷ codes "at 107e0"
    ∷ codes "> context @c"
    ∷ codes "ok"
    ∷ codes "> reply o nsIC.ctx a4=$a3"
    ∷ codes "ok"
    ∷ codes "> call o nsIC.ctx 5 6 ->r"
    ∷ codes "slot 3 entry 1030"
    ∷ codes "gpr 107e0 5 6 107d0 1 40000020"
    ∷ codes "fpr 0 0 0 0 0 0 0 0"
    ∷ codes "stack -"
    ∷ codes "got 5 6 0x107d0 1 0x40000020"
    ∷ codes "result 00000000"
    ∷ codes "out 4 1"
    ∷ codes "> call o nsIC.set:x 7"
    ∷ codes "slot 5 entry 1050"
    ∷ codes "gpr 107e0 107d0 7 0 0 0"
    ∷ codes "fpr 0 0 0 0 0 0 0 0"
    ∷ codes "stack -"
    ∷ codes "got 0x107d0 7"
    ∷ codes "result 80004001" ∷ [])

-- each follows by computing
they_say :
    a_sum × a_sum_on_the_stack × a_sum_on_arm × a_sum_by_position × a_named_result × seven_numbers
    × floats × floats_by_position × unaligned × aligned × optional_arguments × a_context
unfolding digits decode_pairs by_index lineage_within member_within slots_within numbers frame_text
    low_bytes call_sights call_text chain_within entered_frame member_named call_of enter_of
    new_context new_data new_forwarder new_object new_rule outcome poked shown_block
    shown_variable static words.after words.before reading.act_of reading.arg_of
    reading.bytes_of words.cut_at reading.decimal_of reading.digits_of reading.fill_of
    reading.fill_kind_of reading.frame_item_of reading.iid_of reading.item_of reading.line_of
    reading.member_of reading.method_of reading.name_of reading.number_of reading.out_of
    reading.set_of reading.sum_of reading.target_of reading.term_of reading.value_of
    reading.words_line_of reading.conv_of
they_say = (refl, refl, refl, refl, refl, refl, refl, refl, refl, refl, refl, refl)
