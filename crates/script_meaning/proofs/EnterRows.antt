-- The transcripts of enters,
-- worked out by hand from the rules of the conventions and of scripts.
use Rattle.std.proofs.Common.{[], ◌∷◌, refl}
use Rattle.std.specs.Prelude.{codes}
use Rattle.call_model.specs.declared.places.Conv.TheVariants.{SysV64, I386, Ms64, Aapcs32}
use Rattle.std.specs.Fmt.{digits}
use Rattle.hex.specs.Hex.{decode_pairs}
use Rattle.uuid.specs.Text.{by_index}
use Rattle.call_model.specs.Tables.{lineage_within, member_within, slots_within}
use Rattle.object_memory.specs.Cells.{numbers}
use Rattle.transcript_text.specs.Texts.{frame_text}
use Rattle.xp_base.specs.LittleEndian.{low_bytes}
use Rattle.script_meaning.specs.Calls.{call_sights, call_text}
use Rattle.script_meaning.specs.Chain.{chain_within}
use Rattle.script_meaning.specs.Enters.{entered_frame}
use Rattle.script_meaning.specs.Members.{member_named}
use Rattle.script_meaning.specs.Step.{call_of, enter_of, new_context, new_data, new_forwarder, new_object, new_rule, outcome, poked, shown_block, shown_variable}
use Rattle.script_meaning.specs.Transcript.{static}
use Rattle.call_scripts.specs.Reading as reading
use Rattle.line_words.specs.Words as words
use Rattle.script_meaning.proofs.Says.{Says}
use Rattle.script_meaning.proofs.RowTables.{booleans, shorts}

-- bits above a value's own, and registers that no argument is in, are free
abbrev free_bits : Type 0
free_bits =
    Says shorts SysV64
    (codes "object o nsIE"
    ∷ codes "enter o nsIE.sh rsi=deadbeefcafe8001 r9=7 xmm0=5"
    ∷ codes "enter o nsIE.sh rsi=8001" ∷ [])
    (codes "> object o nsIE"
    ∷ codes "at 107d0"
    ∷ codes "> enter o nsIE.sh rsi=deadbeefcafe8001 r9=7 xmm0=5"
    ∷ codes "slot 3 entry 1030"
    ∷ codes "got -32767"
    ∷ codes "result 80004001"
    ∷ codes "> enter o nsIE.sh rsi=8001"
    ∷ codes "slot 3 entry 1030"
    ∷ codes "got -32767"
    ∷ codes "result 80004001" ∷ [])

-- a stack that is too short, and one with free bytes
abbrev a_short_stack : Type 0
a_short_stack =
    Says shorts I386
    (codes "object o nsIE"
    ∷ codes "enter o nsIE.sh stack=018000"
    ∷ codes "enter o nsIE.sh stack=0180aabb" ∷ [])
    (codes "> object o nsIE"
    ∷ codes "at 103f0"
    ∷ codes "> enter o nsIE.sh stack=018000"
    ∷ codes "refused frame 8 7"
    ∷ codes "> enter o nsIE.sh stack=0180aabb"
    ∷ codes "slot 3 entry 1030"
    ∷ codes "got -32767"
    ∷ codes "result 80004001" ∷ [])

-- where the core registers are the first bytes of the stack
abbrev the_core_registers : Type 0
the_core_registers =
    Says shorts Aapcs32
    (codes "object o nsIE"
    ∷ codes "enter o nsIE.sh"
    ∷ codes "enter o nsIE.sh stack=0180aabb1122334455667788" ∷ [])
    (codes "> object o nsIE"
    ∷ codes "at 103f0"
    ∷ codes "> enter o nsIE.sh"
    ∷ codes "refused frame 16 4"
    ∷ codes "> enter o nsIE.sh stack=0180aabb1122334455667788"
    ∷ codes "slot 3 entry 1030"
    ∷ codes "got -32767"
    ∷ codes "result 80004001" ∷ [])

-- where there is a home for the registers
abbrev the_home : Type 0
the_home =
    Says shorts Ms64
    (codes "object o nsIE"
    ∷ codes "enter o nsIE.sh" ∷ [])
    (codes "> object o nsIE"
    ∷ codes "at 107d0"
    ∷ codes "> enter o nsIE.sh"
    ∷ codes "refused frame 32 0" ∷ [])

-- a reply writes the own bytes of a value where they lie in a block, and nothing elsewhere
abbrev one_byte : Type 0
one_byte =
    Says booleans SysV64
    (codes "data d 1122334455667788"
    ∷ codes "object o nsIB"
    ∷ codes "reply o nsIB.b8 a0=1"
    ∷ codes "enter o nsIB.b8 rsi=107d1"
    ∷ codes "show d"
    ∷ codes "enter o nsIB.b8 rsi=107d8"
    ∷ codes "show d" ∷ [])
    (codes "> data d 1122334455667788"
    ∷ codes "at 107d0"
    ∷ codes "> object o nsIB"
    ∷ codes "at 107e0"
    ∷ codes "> reply o nsIB.b8 a0=1"
    ∷ codes "ok"
    ∷ codes "> enter o nsIB.b8 rsi=107d1"
    ∷ codes "slot 3 entry 1030"
    ∷ codes "got 0x107d1"
    ∷ codes "result 00000000"
    ∷ codes "> show d"
    ∷ codes "1101334455667788"
    ∷ codes "> enter o nsIB.b8 rsi=107d8"
    ∷ codes "slot 3 entry 1030"
    ∷ codes "got 0x107d8"
    ∷ codes "result 80004003"
    ∷ codes "> show d"
    ∷ codes "1101334455667788" ∷ [])

-- each follows by computing
they_say :
    free_bits × a_short_stack × the_core_registers × the_home × one_byte
unfolding digits decode_pairs by_index lineage_within member_within slots_within numbers frame_text
    low_bytes call_sights call_text chain_within entered_frame member_named call_of enter_of
    new_context new_data new_forwarder new_object new_rule outcome poked shown_block
    shown_variable static words.after words.before reading.act_of reading.arg_of
    reading.bytes_of words.cut_at reading.decimal_of reading.digits_of reading.fill_of
    reading.fill_kind_of reading.frame_item_of reading.iid_of reading.item_of reading.line_of
    reading.member_of reading.method_of reading.name_of reading.number_of reading.out_of
    reading.set_of reading.sum_of reading.target_of reading.term_of reading.value_of
    reading.words_line_of reading.conv_of
they_say = (refl, refl, refl, refl, refl)
