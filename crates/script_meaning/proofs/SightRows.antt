-- What a bench is shown of calls, worked out by hand.
use Rattle.std.proofs.Common.{◌≡◌, refl}
use Rattle.std.specs.Prelude.{ℕ, List, [], ◌∷◌, ◌++◌, codes, length, replicate}
use Rattle.call_model.specs.declared.places.Conv.TheVariants.{SysV64}
use Rattle.call_model.specs.Tables.{lineage_within, member_within, slots_within}
use Rattle.object_memory.specs.Cells.{numbers}
use Rattle.object_memory.specs.Layout.{slot_words, vtable}
use Rattle.xp_base.specs.LittleEndian.{low_bytes}
use Rattle.script_meaning.specs.Calls.{call_sights}
use Rattle.script_meaning.specs.Chain.{chain_within}
use Rattle.script_meaning.specs.Enters.{entered_frame}
use Rattle.script_meaning.specs.Members.{member_named}
use Rattle.machine_bench.specs.declared.sight.Sight.{Sight}
use Rattle.script_meaning.specs.Step.{call_of, enter_of, new_forwarder, new_object, new_rule, outcome}
use Rattle.script_meaning.specs.Transcript.{sights}
use Rattle.hex.specs.Hex.{decode_pairs}
use Rattle.call_scripts.specs.declared.script.Line.{Line}
use Rattle.call_scripts.specs.Reading as reading
use Rattle.line_words.specs.Words as words
use Rattle.script_meaning.proofs.Says.{script_of, text_of}
use Rattle.script_meaning.proofs.RowTables.{adding, shorts}

-- the words of an object: the vtable's address and its number
abbrev object_words : (number : ℕ) → List ℕ
object_words number = 0 ∷ 0 ∷ 1 ∷ replicate 5 0 ++ number ∷ replicate 7 0

-- the bytes of the vtable, and of one object behind it
vtable_length : length (vtable SysV64) ≡ 2000
unfolding low_bytes slot_words
vtable_length = refl

heap_length : length (vtable SysV64 ++ object_words 0) ≡ 2016
unfolding low_bytes slot_words
heap_length = refl

-- ---- two calls of an object

-- a call through three cells, with nothing on the stack
abbrev called : (a b cell : ℕ) → Sight
called a b cell = record {
  gprs = 0x107d0 ∷ a ∷ b ∷ 0x4000_0010 ∷ replicate 4 0;
  fprs = replicate 8 0;
  stack = [];
  cells = a ∷ b ∷ cell ∷ [];
  heap = vtable SysV64 ++ object_words 0;
}

abbrev two_calls : List Line
two_calls =
    script_of
    (text_of
    (codes "object o nsIT"
    ∷ codes "reply o nsIT.add a2=$a0+$a1"
    ∷ codes "call o nsIT.add 2 -1 ->s"
    ∷ codes "call o nsIT.add 3 4 ->t" ∷ []))

two_calls_shown :
    sights adding SysV64 two_calls
    ≡ called 2 0xffff_ffff_ffff_ffff 0
    ∷ called 2 0xffff_ffff_ffff_ffff 1
    ∷ called 3 4 0
    ∷ called 3 4 7 ∷ []
unfolding call_of call_sights chain_within decode_pairs enter_of entered_frame lineage_within low_bytes
    member_named member_within new_forwarder new_object new_rule numbers outcome sights
    slots_within words.after words.before reading.act_of reading.arg_of reading.bytes_of
    words.cut_at reading.decimal_of reading.digits_of reading.fill_of reading.fill_kind_of
    reading.frame_item_of reading.iid_of reading.item_of reading.line_of reading.member_of
    reading.method_of reading.name_of reading.number_of reading.out_of reading.set_of
    reading.sum_of reading.target_of reading.term_of reading.value_of reading.words_line_of
    reading.conv_of
two_calls_shown = refl

-- ---- an enter that a bridge hands on

abbrev entered : (gprs : List ℕ) → Sight
entered gprs = record {
  gprs = gprs;
  fprs = replicate 8 0;
  stack = [];
  cells = [];
  heap = vtable SysV64 ++ (object_words 0 ++ object_words 1);
}

-- the frame that the script gave; and behind the bridge the frame of a call with the same value
abbrev given : Sight
given = entered (0x107e0 ∷ 0xdead_beef_cafe_8001 ∷ 0 ∷ 0 ∷ 0 ∷ 7 ∷ 0 ∷ 0 ∷ [])

abbrev handed : Sight
handed = entered (0x107d0 ∷ 0xffff_ffff_ffff_8001 ∷ replicate 6 0)

abbrev a_bridge : List Line
a_bridge =
    script_of
    (text_of
    (codes "object o nsIE"
    ∷ codes "bridge q o aapcs64"
    ∷ codes "enter q nsIE.sh rsi=deadbeefcafe8001 r9=7" ∷ []))

a_bridge_shown : sights shorts SysV64 a_bridge ≡ given ∷ handed ∷ handed ∷ []
unfolding call_of call_sights chain_within decode_pairs enter_of entered_frame lineage_within low_bytes
    member_named member_within new_forwarder new_object new_rule numbers outcome sights
    slots_within words.after words.before reading.act_of reading.arg_of reading.bytes_of
    words.cut_at reading.decimal_of reading.digits_of reading.fill_of reading.fill_kind_of
    reading.frame_item_of reading.iid_of reading.item_of reading.line_of reading.member_of
    reading.method_of reading.name_of reading.number_of reading.out_of reading.set_of
    reading.sum_of reading.target_of reading.term_of reading.value_of reading.words_line_of
    reading.conv_of
a_bridge_shown = refl
