-- The transcripts of lines that are refused,
-- worked out by hand from the rules of the conventions and of scripts.
use Rattle.std.proofs.Common.{[], ◌∷◌, refl}
use Rattle.std.specs.Prelude.{codes}
use Rattle.call_model.specs.declared.places.Conv.TheVariants.{SysV64, I386}
use Rattle.std.specs.Fmt.{digits}
use Rattle.hex.specs.Hex.{decode_pairs}
use Rattle.uuid.specs.Text.{by_index}
use Rattle.call_model.specs.Tables.{lineage_within, member_within, slots_within}
use Rattle.object_memory.specs.Cells.{numbers}
use Rattle.transcript_text.specs.Texts.{frame_text}
use Rattle.xp_base.specs.LittleEndian.{low_bytes}
use Rattle.script_meaning.specs.Calls.{call_sights, call_text}
use Rattle.script_meaning.specs.Chain.{chain_within}
use Rattle.script_meaning.specs.Enters.{entered_frame}
use Rattle.script_meaning.specs.Members.{member_named}
use Rattle.script_meaning.specs.Step.{call_of, enter_of, new_context, new_data, new_forwarder, new_object, new_rule, outcome, poked, shown_block, shown_variable}
use Rattle.script_meaning.specs.Transcript.{static}
use Rattle.call_scripts.specs.Reading as reading
use Rattle.line_words.specs.Words as words
use Rattle.script_meaning.proofs.Says.{Says}
use Rattle.script_meaning.proofs.RowTables.{adding, closed_methods}

-- calls that are refused, and names
abbrev refused_calls : Type 0
refused_calls =
    Says adding SysV64
    (codes "object o nsIT"
    ∷ codes "reply o nsIT.add a2=$a0+$a1"
    ∷ codes "call o nsIT.add 2 -1 ->s"
    ∷ codes "call $s nsIT.add 1 1 ->t"
    ∷ codes "show $s"
    ∷ codes "call o nsIT.add 1 ->s"
    ∷ codes "call o nsIT.add 1 ->x ->s"
    ∷ codes "call o nsIT.add 1 2147483648 ->s"
    ∷ codes "call z nsIT.add 1 1 ->s"
    ∷ codes "object o nsIT"
    ∷ codes "object p nsISupports"
    ∷ codes "call p nsIT.add 1 1 ->s" ∷ [])
    (codes "> object o nsIT"
    ∷ codes "at 107d0"
    ∷ codes "> reply o nsIT.add a2=$a0+$a1"
    ∷ codes "ok"
    ∷ codes "> call o nsIT.add 2 -1 ->s"
    ∷ codes "slot 3 entry 1030"
    ∷ codes "gpr 107d0 2 ffffffffffffffff 40000010 0 0"
    ∷ codes "fpr 0 0 0 0 0 0 0 0"
    ∷ codes "stack -"
    ∷ codes "got 2 -1 0x40000010"
    ∷ codes "result 00000000"
    ∷ codes "out 2 1"
    ∷ codes "> call $s nsIT.add 1 1 ->t"
    ∷ codes "refused not an object"
    ∷ codes "> show $s"
    ∷ codes "1"
    ∷ codes "> call o nsIT.add 1 ->s"
    ∷ codes "refused count"
    ∷ codes "> call o nsIT.add 1 ->x ->s"
    ∷ codes "refused form 1"
    ∷ codes "> call o nsIT.add 1 2147483648 ->s"
    ∷ codes "refused range 1"
    ∷ codes "> call z nsIT.add 1 1 ->s"
    ∷ codes "refused no name"
    ∷ codes "> object o nsIT"
    ∷ codes "refused taken"
    ∷ codes "> object p nsISupports"
    ∷ codes "at 107e0"
    ∷ codes "> call p nsIT.add 1 1 ->s"
    ∷ codes "refused wrong interface" ∷ [])

-- methods that may not be called, and that are not there
abbrev refused_methods : Type 0
refused_methods =
    Says closed_methods SysV64
    (codes "object o nsIH"
    ∷ codes "call o nsIH.h"
    ∷ codes "call o nsIH.q"
    ∷ codes "call o nsISupports.AddRef"
    ∷ codes "call o nsIH.x"
    ∷ codes "call o nsIH.v"
    ∷ codes "call o nsIH.w"
    ∷ codes "call o nsIJ.w"
    ∷ codes "object j nsIJ" ∷ [])
    (codes "> object o nsIH"
    ∷ codes "at 107d0"
    ∷ codes "> call o nsIH.h"
    ∷ codes "refused hidden"
    ∷ codes "> call o nsIH.q"
    ∷ codes "slot 5 entry 1050"
    ∷ codes "gpr 107d0 0 0 0 0 0"
    ∷ codes "fpr 0 0 0 0 0 0 0 0"
    ∷ codes "stack -"
    ∷ codes "got -"
    ∷ codes "result 80004001"
    ∷ codes "> call o nsISupports.AddRef"
    ∷ codes "refused hidden"
    ∷ codes "> call o nsIH.x"
    ∷ codes "refused notxpcom"
    ∷ codes "> call o nsIH.v"
    ∷ codes "refused opaque"
    ∷ codes "> call o nsIH.w"
    ∷ codes "refused no method"
    ∷ codes "> call o nsIJ.w"
    ∷ codes "refused no interface"
    ∷ codes "> object j nsIJ"
    ∷ codes "refused no interface" ∷ [])

-- a context that is no word, and one that is not known
abbrev refused_contexts : Type 0
refused_contexts =
    Says adding I386
    (codes "context 4294967296"
    ∷ codes "context $v" ∷ [])
    (codes "> context 4294967296"
    ∷ codes "refused range 0"
    ∷ codes "> context $v"
    ∷ codes "refused no name" ∷ [])

-- bytes that are written into a block
abbrev pokes : Type 0
pokes =
    Says adding SysV64
    (codes "data d 11223344"
    ∷ codes "poke d 2 aabb"
    ∷ codes "show d"
    ∷ codes "poke d 3 aabb"
    ∷ codes "object o nsIT"
    ∷ codes "poke o 0 00"
    ∷ codes "show o"
    ∷ codes "data z zero 0"
    ∷ codes "show z" ∷ [])
    (codes "> data d 11223344"
    ∷ codes "at 107d0"
    ∷ codes "> poke d 2 aabb"
    ∷ codes "ok"
    ∷ codes "> show d"
    ∷ codes "1122aabb"
    ∷ codes "> poke d 3 aabb"
    ∷ codes "refused range 0"
    ∷ codes "> object o nsIT"
    ∷ codes "at 107e0"
    ∷ codes "> poke o 0 00"
    ∷ codes "refused not data"
    ∷ codes "> show o"
    ∷ codes "refused not data"
    ∷ codes "> data z zero 0"
    ∷ codes "at 107f0"
    ∷ codes "> show z"
    ∷ codes "-" ∷ [])

-- more bytes than the heap has
abbrev no_room : Type 0
no_room =
    Says adding SysV64
    (codes "data z zero 16777217" ∷ [])
    (codes "> data z zero 16777217"
    ∷ codes "refused heap" ∷ [])

-- each follows by computing
they_say :
    refused_calls × refused_methods × refused_contexts × pokes × no_room
unfolding digits decode_pairs by_index lineage_within member_within slots_within numbers frame_text
    low_bytes call_sights call_text chain_within entered_frame member_named call_of enter_of
    new_context new_data new_forwarder new_object new_rule outcome poked shown_block
    shown_variable static words.after words.before reading.act_of reading.arg_of
    reading.bytes_of words.cut_at reading.decimal_of reading.digits_of reading.fill_of
    reading.fill_kind_of reading.frame_item_of reading.iid_of reading.item_of reading.line_of
    reading.member_of reading.method_of reading.name_of reading.number_of reading.out_of
    reading.set_of reading.sum_of reading.target_of reading.term_of reading.value_of
    reading.words_line_of reading.conv_of
they_say = (refl, refl, refl, refl, refl)
