-- One line of a script: the state that it leaves, what is written of it, and what a bench is shown.
use Rattle.std.specs.Prelude.{ℕ, ◌+◌, ◌*◌, ◌==◌, ◌||◌, Bool, true, not, is_some, nat_le, nat_lt, List, [], ◌∷◌, ◌++◌, length, position, Option, Some, None, Result, Ok, Err, codes}
use Rattle.std.specs.Int.RustNames.{unsigned_abs}
use Rattle.std.specs.List.{flat_map}
use Rattle.xp_base.specs.Digits.{decimal_text, hex_digits, hex_digits_fixed}
use Rattle.call_model.specs.declared.ctypes.CType.TheVariants.{Ptr}
use Rattle.call_model.specs.declared.places.Conv.{Conv}
use Rattle.call_model.specs.declared.tables.Table.{Table}
use Rattle.call_model.specs.Placement.{stack_len_of, word_of}
use Rattle.call_model.specs.Prototype.{types_of}
use Rattle.call_model.specs.Tables.{iface_named}
use Rattle.call_scripts.specs.declared.script.Act.{Act}
use Rattle.call_scripts.specs.declared.script.Act.TheVariants as acts
use Rattle.call_scripts.specs.declared.script.ArgWord.{ArgWord}
use Rattle.call_scripts.specs.declared.script.EnterItem.{EnterItem}
use Rattle.call_scripts.specs.declared.script.Fill.{Fill}
use Rattle.call_scripts.specs.declared.script.Line.{Line}
use Rattle.call_scripts.specs.declared.script.MemberRef.{MemberRef}
use Rattle.call_scripts.specs.declared.script.ReplyItem.{ReplyItem}
use Rattle.call_scripts.specs.declared.script.Target.{Target}
use Rattle.call_scripts.specs.declared.script.ValueWord.{ValueWord}
use Rattle.invoke_by_index.specs.declared.args.ArgFault.{ArgFault}
use Rattle.invoke_by_index.specs.declared.args.ArgFault.TheVariants as faults
use Rattle.invoke_by_index.specs.Arguments.{arg_fault}
use Rattle.invoke_by_index.specs.Ranges.{in_range}
use Rattle.object_memory.specs.Layout.{space_for}
use Rattle.proxy_objects.specs.declared.forwards.TheConstants.{MOST_FORWARDERS}
use Rattle.transcript_text.specs.declared.refusals.Refusal.{Refusal}
use Rattle.transcript_text.specs.declared.refusals.Refusal.TheVariants as refusal
use Rattle.transcript_text.specs.Refusals.{refusal_text}
use Rattle.transcript_text.specs.Texts.{ended}
use Rattle.call_replies.specs.Blocks.{Block, Held, Data, Object, Forwarder}
use Rattle.call_replies.specs.Items.{takes_item}
use Rattle.script_meaning.specs.Calls.{Call, call_sights, call_text, call_with, enter_with, state_after, values_received}
use Rattle.script_meaning.specs.Chain.{chain_of, depth, is_forwarder}
use Rattle.script_meaning.specs.Enters.{misformed}
use Rattle.script_meaning.specs.Members.{Member, as_object, member_named, object_of}
use Rattle.script_meaning.specs.Refusing.{◌then◌, no_fault, refuse, require, there_is}
use Rattle.machine_bench.specs.declared.sight.Sight.{Sight}
use Rattle.script_meaning.specs.State.{Name, Rule, State, has_room, iface_in, named, next_at, next_number, number_in, object_at, with_block, with_bytes, with_rule}
use Rattle.script_meaning.specs.Words.{args_of, bytes_of, length_of, number_of_target, number_of_value, rule_of}

-- what a line does
pub record Stepped : Type 0 where
  pub state : State
  pub text : List ℕ
  pub sights : List Sight

-- a line that calls nothing shows nothing
abbrev pub quiet : State → (text : List ℕ) → Stepped
quiet state text = record { state = state; text = text; sights = [] }

abbrev pub done : State → Stepped
done state = quiet state (ended (codes "ok"))

-- ---- new blocks

-- the next block of the heap, which gets this name
abbrev pub placed_block : Conv → State → Name → Held → Stepped
placed_block conv state name held =
    quiet (with_block conv state name held) (ended (codes "at " ++ hex_digits (next_at conv state)))

unfoldable pub new_data : Conv → State → Name → Fill → Result Stepped Refusal
new_data conv state name fill =
    refuse (is_some (named state name)) refusal.Taken
    then λ _. require (has_room conv state (space_for (length_of fill))) refusal.Heap
    then λ _. Ok (placed_block conv state name (Data (bytes_of fill)))

-- an object has two words
abbrev pub object_space : Conv → ℕ
object_space conv = space_for (2 * word_of conv)

unfoldable pub new_object : Table → Conv → State → (name iface : Name) → Result Stepped Refusal
new_object table conv state name iface =
    refuse (is_some (named state name)) refusal.Taken
    then λ _. there_is (iface_named table iface) refusal.NoInterface
    then λ number. require (has_room conv state (object_space conv)) refusal.Heap
    then λ _. Ok (placed_block conv state name (Object (next_number state) number))

-- a convention of its own needs words of 8 bytes on both sides
abbrev pub joins : Conv → (own : Option Conv) → Bool
joins conv None = true
joins conv (Some own) = not ((word_of conv == 4) || (word_of own == 4))

-- the forwarder of an object has its interface
abbrev pub forwarder_to : State → Block → (own : Option Conv) → Held
forwarder_to state target own =
    Forwarder (next_number state) (iface_in target.held) (number_in target.held) own

-- there are fewer forwarders on the way from an object than there may be
abbrev pub has_depth : Conv → State → Block → Bool
has_depth conv state object =
    nat_lt (depth (chain_of state.blocks conv object)) MOST_FORWARDERS

unfoldable pub new_forwarder :
    Conv → State → (name target : Name) → (own : Option Conv) → Result Stepped Refusal
new_forwarder conv state name target own =
    refuse (is_some (named state name)) refusal.Taken
    then λ _. there_is (named state target) refusal.NoName
    then λ found. there_is (as_object found) refusal.NotAnObject
    then λ object. require (joins conv own) refusal.Word
    then λ _. require (has_depth conv state object) refusal.Depth
    then λ _. require (has_room conv state (object_space conv)) refusal.Heap
    then λ _. Ok (placed_block conv state name (forwarder_to state object own))

-- ---- rules

abbrev pub misformed_item : Member → Rule → Option ℕ
misformed_item m rule = position (λ item. not (takes_item m.proto item)) rule

unfoldable pub new_rule :
    Table → State → Name → MemberRef → List ReplyItem → Result Stepped Refusal
new_rule table state name member items =
    there_is (named state name) refusal.NoName
    then λ found. there_is (rule_of state items) refusal.NoName
    then λ rule. member_named table member
    then λ m. no_fault (misformed_item m rule) refusal.Form
    then λ _. object_of table m.iface (as_object found)
    then λ object. refuse (is_forwarder object.held) refusal.Proxy
    then λ _. Ok (done (with_rule state (number_in object.held) m.slot rule))

-- ---- calls

abbrev pub refusal_of : ArgFault → Refusal
refusal_of faults.Count = refusal.Count
refusal_of (faults.Form k) = refusal.Form k
refusal_of (faults.Range k) = refusal.Range k

unfoldable pub call_of :
    Table → Conv → State → Target → MemberRef → List ArgWord → Result Call Refusal
call_of table conv state target member words =
    there_is (number_of_target state target) refusal.NoName
    then λ this. there_is (args_of state words) refusal.NoName
    then λ args. member_named table member
    then λ m. no_fault (arg_fault conv m.proto args) refusal_of
    then λ _. object_of table m.iface (object_at state this)
    then λ object. Ok (call_with conv state.context m object args)

-- how many bytes of stack the arguments need, and how many the frame has
abbrev pub stack_needed : Conv → Call → ℕ
stack_needed conv call = stack_len_of conv (types_of call.proto)

abbrev pub stack_given : Call → ℕ
stack_given call = length call.frame.stack

abbrev pub short_frame : Conv → Call → Refusal
short_frame conv call = refusal.Frame (stack_needed conv call) (stack_given call)

-- the frame has all that the arguments need
abbrev pub whole : Conv → Call → Result Call Refusal
whole conv call =
    require (nat_le (stack_needed conv call) (stack_given call)) (short_frame conv call)
    then λ _. Ok call

unfoldable pub enter_of :
    Table → Conv → State → Name → MemberRef → List EnterItem → Result Call Refusal
enter_of table conv state name member items =
    there_is (named state name) refusal.NoName
    then λ found. member_named table member
    then λ m. no_fault (misformed conv items) refusal.Form
    then λ _. object_of table m.iface (as_object found)
    then λ object. whole conv (enter_with conv m object items)

-- what a call does; its words name the variables for what comes out
abbrev pub made : Table → Conv → State → List ArgWord → Call → (values : List ℕ) → Stepped
made table conv state words call values = record {
  state = state_after state conv call words values;
  text = call_text table state conv call values;
  sights = call_sights state conv call values;
}

abbrev pub made_by : Table → Conv → State → List ArgWord → Call → Stepped
made_by table conv state words call =
    made table conv state words call (values_received conv call)

-- ---- data and variables

abbrev pub data_in : Held → Option (List ℕ)
data_in (Data bytes) = Some bytes
data_in (Object number iface) = None
data_in (Forwarder number iface target own) = None

-- two hexadecimal digits for each byte
abbrev pub bytes_text : List ℕ → List ℕ
bytes_text [] = codes "-"
bytes_text (b ∷ bytes) = flat_map (hex_digits_fixed 2) (b ∷ bytes)

unfoldable pub shown_block : State → Name → Result Stepped Refusal
shown_block state name =
    there_is (named state name) refusal.NoName
    then λ b. there_is (data_in b.held) refusal.NotData
    then λ bytes. Ok (quiet state (ended (bytes_text bytes)))

unfoldable pub shown_variable : State → Name → Result Stepped Refusal
shown_variable state name =
    there_is (state.variables name) refusal.NoName
    then λ number. Ok (quiet state (ended (decimal_text number)))

unfoldable pub poked : State → Name → (offset : ℕ) → (bytes : List ℕ) → Result Stepped Refusal
poked state name offset bytes =
    there_is (named state name) refusal.NoName
    then λ b. there_is (data_in b.held) refusal.NotData
    then λ old. require (nat_le (offset + length bytes) (length old)) (refusal.Range 0)
    then λ _. Ok (done (with_bytes state (b.at + offset) bytes))

unfoldable pub new_context : Conv → State → ValueWord → Result Stepped Refusal
new_context conv state value =
    there_is (number_of_value state value) refusal.NoName
    then λ number. require (in_range conv Ptr number) (refusal.Range 0)
    then λ _. Ok (done (record state { context = unsigned_abs number }))

-- ---- lines

-- what the words of a line do, one case for each form of line; or why they are refused
unfoldable pub outcome : Table → Conv → State → Act → Result Stepped Refusal
outcome table conv state (acts.Block name fill) = new_data conv state name fill
outcome table conv state (acts.Object name iface) = new_object table conv state name iface
outcome table conv state (acts.Proxy name target) = new_forwarder conv state name target None
outcome table conv state (acts.Bridge name target own) =
    new_forwarder conv state name target (Some own)
outcome table conv state (acts.Reply name member items) = new_rule table state name member items
outcome table conv state (acts.Call target member words) =
    call_of table conv state target member words
    then λ call. Ok (made_by table conv state words call)
outcome table conv state (acts.Enter name member items) =
    enter_of table conv state name member items
    then λ call. Ok (made_by table conv state [] call)
outcome table conv state (acts.ShowBlock name) = shown_block state name
outcome table conv state (acts.ShowValue name) = shown_variable state name
outcome table conv state (acts.Poke name offset bytes) = poked state name offset bytes
outcome table conv state (acts.Context value) = new_context conv state value

abbrev pub refused_text : Refusal → List ℕ
refused_text e = ended (codes "refused " ++ refusal_text e)

-- a refused line changes nothing
abbrev pub settled : State → Result Stepped Refusal → Stepped
settled state (Ok stepped) = stepped
settled state (Err e) = quiet state (refused_text e)

-- a line writes its words, and then what came of it
abbrev pub echo_text : Line → List ℕ
echo_text line = ended (codes "> " ++ line.echo)

abbrev pub echoed : Line → Stepped → Stepped
echoed line stepped = record stepped { text = echo_text line ++ stepped.text }

abbrev pub step : Table → Conv → State → Line → Stepped
step table conv state line = echoed line (settled state (outcome table conv state line.act))
