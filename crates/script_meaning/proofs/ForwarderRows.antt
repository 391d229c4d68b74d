-- The transcripts of calls through forwarders,
-- worked out by hand from the rules of the conventions and of scripts.
use Rattle.std.proofs.Common.{[], ◌∷◌, refl}
use Rattle.std.specs.Prelude.{codes}
use Rattle.call_model.specs.declared.places.Conv.TheVariants.{SysV64, I386}
use Rattle.std.specs.Fmt.{digits}
use Rattle.hex.specs.Hex.{decode_pairs}
use Rattle.uuid.specs.Text.{by_index}
use Rattle.call_model.specs.Tables.{lineage_within, member_within, slots_within}
use Rattle.object_memory.specs.Cells.{numbers}
use Rattle.transcript_text.specs.Texts.{frame_text}
use Rattle.xp_base.specs.LittleEndian.{low_bytes}
use Rattle.script_meaning.specs.Calls.{call_sights, call_text}
use Rattle.script_meaning.specs.Chain.{chain_within}
use Rattle.script_meaning.specs.Enters.{entered_frame}
use Rattle.script_meaning.specs.Members.{member_named}
use Rattle.script_meaning.specs.Step.{call_of, enter_of, new_context, new_data, new_forwarder, new_object, new_rule, outcome, poked, shown_block, shown_variable}
use Rattle.script_meaning.specs.Transcript.{static}
use Rattle.call_scripts.specs.Reading as reading
use Rattle.line_words.specs.Words as words
use Rattle.script_meaning.proofs.Says.{Says}
use Rattle.script_meaning.proofs.RowTables.{adding, shorts}

-- a call through a proxy
abbrev a_proxy : Type 0
a_proxy =
    Says adding SysV64
    (codes "object o nsIT"
    ∷ codes "reply o nsIT.add a2=$a0+$a1"
    ∷ codes "proxy p o"
    ∷ codes "call p nsIT.add 2 -1 ->s" ∷ [])
    (codes "> object o nsIT"
    ∷ codes "at 107d0"
    ∷ codes "> reply o nsIT.add a2=$a0+$a1"
    ∷ codes "ok"
    ∷ codes "> proxy p o"
    ∷ codes "at 107e0"
    ∷ codes "> call p nsIT.add 2 -1 ->s"
    ∷ codes "slot 3 entry 1030"
    ∷ codes "gpr 107e0 2 ffffffffffffffff 40000010 0 0"
    ∷ codes "fpr 0 0 0 0 0 0 0 0"
    ∷ codes "stack -"
    ∷ codes "got 2 -1 0x40000010"
    ∷ codes "slot 3 entry 1030"
    ∷ codes "gpr 107d0 2 ffffffffffffffff 40000010 0 0"
    ∷ codes "fpr 0 0 0 0 0 0 0 0"
    ∷ codes "stack -"
    ∷ codes "got 2 -1 0x40000010"
    ∷ codes "result 00000000"
    ∷ codes "out 2 1" ∷ [])

-- an enter that a bridge hands on under a convention of its own, with canonical values
abbrev a_bridge : Type 0
a_bridge =
    Says shorts SysV64
    (codes "object o nsIE"
    ∷ codes "bridge q o aapcs64"
    ∷ codes "enter q nsIE.sh rsi=deadbeefcafe8001 r9=7" ∷ [])
    (codes "> object o nsIE"
    ∷ codes "at 107d0"
    ∷ codes "> bridge q o aapcs64"
    ∷ codes "at 107e0"
    ∷ codes "> enter q nsIE.sh rsi=deadbeefcafe8001 r9=7"
    ∷ codes "slot 3 entry 1030"
    ∷ codes "got -32767"
    ∷ codes "slot 3 entry 1030"
    ∷ codes "gpr 107d0 ffffffffffff8001 0 0 0 0 0 0"
    ∷ codes "fpr 0 0 0 0 0 0 0 0"
    ∷ codes "stack -"
    ∷ codes "got -32767"
    ∷ codes "result 80004001" ∷ [])

-- a bridge where words have four bytes
abbrev short_words : Type 0
short_words =
    Says adding I386
    (codes "object o nsIT"
    ∷ codes "bridge q o aapcs64" ∷ [])
    (codes "> object o nsIT"
    ∷ codes "at 103f0"
    ∷ codes "> bridge q o aapcs64"
    ∷ codes "refused word" ∷ [])

-- a proxy has no replies of its own
abbrev no_reply_of_a_proxy : Type 0
no_reply_of_a_proxy =
    Says adding SysV64
    (codes "object o nsIT"
    ∷ codes "reply o nsIT.add a2=$a0+$a1"
    ∷ codes "proxy p o"
    ∷ codes "reply p nsIT.add a2=1" ∷ [])
    (codes "> object o nsIT"
    ∷ codes "at 107d0"
    ∷ codes "> reply o nsIT.add a2=$a0+$a1"
    ∷ codes "ok"
    ∷ codes "> proxy p o"
    ∷ codes "at 107e0"
    ∷ codes "> reply p nsIT.add a2=1"
    ∷ codes "refused proxy" ∷ [])

-- the seventeenth proxy in a row
abbrev seventeen_proxies : Type 0
seventeen_proxies =
    Says adding SysV64
    (codes "object p0 nsIT"
    ∷ codes "proxy p1 p0"
    ∷ codes "proxy p2 p1"
    ∷ codes "proxy p3 p2"
    ∷ codes "proxy p4 p3"
    ∷ codes "proxy p5 p4"
    ∷ codes "proxy p6 p5"
    ∷ codes "proxy p7 p6"
    ∷ codes "proxy p8 p7"
    ∷ codes "proxy p9 p8"
    ∷ codes "proxy p10 p9"
    ∷ codes "proxy p11 p10"
    ∷ codes "proxy p12 p11"
    ∷ codes "proxy p13 p12"
    ∷ codes "proxy p14 p13"
    ∷ codes "proxy p15 p14"
    ∷ codes "proxy p16 p15"
    ∷ codes "proxy p17 p16" ∷ [])
    (codes "> object p0 nsIT"
    ∷ codes "at 107d0"
    ∷ codes "> proxy p1 p0"
    ∷ codes "at 107e0"
    ∷ codes "> proxy p2 p1"
    ∷ codes "at 107f0"
    ∷ codes "> proxy p3 p2"
    ∷ codes "at 10800"
    ∷ codes "> proxy p4 p3"
    ∷ codes "at 10810"
    ∷ codes "> proxy p5 p4"
    ∷ codes "at 10820"
    ∷ codes "> proxy p6 p5"
    ∷ codes "at 10830"
    ∷ codes "> proxy p7 p6"
    ∷ codes "at 10840"
    ∷ codes "> proxy p8 p7"
    ∷ codes "at 10850"
    ∷ codes "> proxy p9 p8"
    ∷ codes "at 10860"
    ∷ codes "> proxy p10 p9"
    ∷ codes "at 10870"
    ∷ codes "> proxy p11 p10"
    ∷ codes "at 10880"
    ∷ codes "> proxy p12 p11"
    ∷ codes "at 10890"
    ∷ codes "> proxy p13 p12"
    ∷ codes "at 108a0"
    ∷ codes "> proxy p14 p13"
    ∷ codes "at 108b0"
    ∷ codes "> proxy p15 p14"
    ∷ codes "at 108c0"
    ∷ codes "> proxy p16 p15"
    ∷ codes "at 108d0"
    ∷ codes "> proxy p17 p16"
    ∷ codes "refused depth" ∷ [])

-- each follows by computing
they_say :
    a_proxy × a_bridge × short_words × no_reply_of_a_proxy × seventeen_proxies
unfolding digits decode_pairs by_index lineage_within member_within slots_within numbers frame_text
    low_bytes call_sights call_text chain_within entered_frame member_named call_of enter_of
    new_context new_data new_forwarder new_object new_rule outcome poked shown_block
    shown_variable static words.after words.before reading.act_of reading.arg_of
    reading.bytes_of words.cut_at reading.decimal_of reading.digits_of reading.fill_of
    reading.fill_kind_of reading.frame_item_of reading.iid_of reading.item_of reading.line_of
    reading.member_of reading.method_of reading.name_of reading.number_of reading.out_of
    reading.set_of reading.sum_of reading.target_of reading.term_of reading.value_of
    reading.words_line_of reading.conv_of
they_say = (refl, refl, refl, refl, refl)
