-- A call that is not refused, or an enter: its frames, the values that are received, the reply,
-- what comes out, and what is written and shown of it. All but the first object's frame depends on
-- the received values alone.
use Rattle.std.specs.Prelude.{ℕ, ◌+◌, Bool, true, false, List, [], ◌∷◌, ◌++◌, map, filter, fold, length, drop, take, slice_get, slice_index, codes, option_and_then, Option, if◌then◌else◌}
use Rattle.std.specs.List.{flat_map, range_with_len}
use Rattle.std.specs.Option.{option_map_or}
use Rattle.call_model.specs.declared.places.Conv.{Conv}
use Rattle.call_model.specs.declared.prototypes.ProtoArg.{ProtoArg}
use Rattle.call_model.specs.declared.tables.Table.{Table}
use Rattle.call_model.specs.Placement.{type_at}
use Rattle.call_model.specs.Prototype.{types_of}
use Rattle.call_model.specs.Values.{FrameView, placed}
use Rattle.call_scripts.specs.declared.script.ArgWord.{ArgWord}
use Rattle.call_scripts.specs.declared.script.EnterItem.{EnterItem}
use Rattle.invoke_by_index.specs.declared.args.Arg.{Arg}
use Rattle.invoke_by_index.specs.Arguments.{cells_of, parameters, values_of}
use Rattle.object_memory.specs.declared.layout.TheConstants.{CELLS_AT}
use Rattle.object_memory.specs.Cells.{cell_numbers}
use Rattle.stub_dispatch.specs.Cells.{received_cells}
use Rattle.transcript_text.specs.Texts.{ended, frame_text, labelled, result_text, slot_text, value_text}
use Rattle.xp_base.specs.LittleEndian.{low_bytes}
use Rattle.call_replies.specs.Blocks.{Block}
use Rattle.call_replies.specs.Items.{passes_cell}
use Rattle.call_replies.specs.Reply.{Asked, Memory, Replied, reply}
use Rattle.call_replies.specs.Writes.{asked_by}
use Rattle.script_meaning.specs.Chain.{Stop, answering, chain_of}
use Rattle.script_meaning.specs.Enters.{entered_frame}
use Rattle.script_meaning.specs.Members.{Member}
use Rattle.script_meaning.specs.Outs.{After, number_after, out_line}
use Rattle.machine_bench.specs.declared.sight.Sight.{Sight}
use Rattle.script_meaning.specs.Sights.{sight}
use Rattle.script_meaning.specs.State.{Name, State, Variables, learned, number_in}
use Rattle.script_meaning.specs.Words.{variable_of}

-- ---- calls

-- the object, the slot and the prototype; whether a script gave the frame, and there are no cells;
-- the frame with which the object is entered; and the numbers in the cells
pub record Call : Type 0 where
  pub object : Block
  pub slot : ℕ
  pub proto : List ProtoArg
  pub entered : Bool
  pub frame : FrameView
  pub cells : List ℕ

-- the frame of a call of an object with these values
abbrev pub frame_to : Conv → List ProtoArg → (object : Block) → (values : List ℕ) → FrameView
frame_to conv proto object values = placed conv (types_of proto) (object.at ∷ values)

-- a call with arguments, through cells from CELLS_AT on
abbrev pub call_with : Conv → (context : ℕ) → Member → Block → List Arg → Call
call_with conv context m object args = record {
  object = object;
  slot = m.slot;
  proto = m.proto;
  entered = false;
  frame = frame_to conv m.proto object (values_of CELLS_AT context m.proto args);
  cells = cells_of conv CELLS_AT context m.proto args;
}

-- an enter with the items of a frame
abbrev pub enter_with : Conv → Member → Block → List EnterItem → Call
enter_with conv m object items = record {
  object = object;
  slot = m.slot;
  proto = m.proto;
  entered = true;
  frame = entered_frame conv object.at items;
  cells = [];
}

-- the values that the object receives from the frame
abbrev pub values_received : Conv → Call → List ℕ
values_received conv call = received_cells conv call.proto call.frame

-- ---- the reply

abbrev pub asked : Call → (values : List ℕ) → Asked
asked call values = asked_by call.entered call.proto values

abbrev pub memory_before : State → Call → Memory
memory_before state call =
    record { cells = flat_map (low_bytes 8) call.cells; blocks = state.blocks }

abbrev pub chain : State → Conv → Call → List Stop
chain state conv call = chain_of state.blocks conv call.object

-- by the rule of the object that answers
abbrev pub reply_to : State → Conv → Call → (values : List ℕ) → Replied
reply_to state conv call values =
    reply
    conv
    (state.rules (number_in (answering call.object (chain state conv call)).held) call.slot)
    (asked call values)
    (memory_before state call)

-- ---- what comes out

-- the positions whose cells are told after a call; an enter has none
abbrev pub out_positions : Call → List ℕ
out_positions call =
    if call.entered then []
    else filter (passes_cell call.proto) (range_with_len 0 (length call.proto))

abbrev pub after : State → Conv → Call → (values : List ℕ) → After
after state conv call values = record {
  proto = call.proto;
  values = values;
  cells = cell_numbers (reply_to state conv call values).memory.cells;
  blocks = (reply_to state conv call values).memory.blocks;
}

-- the variable for what comes out at position k: that behind the arrow of its argument
abbrev pub variable_at : List ProtoArg → List ArgWord → (k : ℕ) → Option Name
variable_at proto words k =
    option_and_then variable_of (slice_get words (length (parameters (take k proto))))

abbrev pub learned_at : Conv → After → List ArgWord → Variables → (k : ℕ) → Variables
learned_at conv after words known k =
    option_map_or
    (λ name. learned known name (number_after conv after k))
    (variable_at after.proto words k)
    known

-- ---- the state

abbrev pub state_after : State → Conv → Call → List ArgWord → (values : List ℕ) → State
state_after state conv call words values = record state {
  blocks = (reply_to state conv call values).memory.blocks;
  variables =
      fold
      (learned_at conv (after state conv call values) words)
      state.variables
      (out_positions call);
}

-- ---- the text

-- each value by the type that is passed
abbrev pub value_word : List ProtoArg → (values : List ℕ) → (k : ℕ) → List ℕ
value_word proto values k = value_text (type_at (types_of proto) (k + 1)) (slice_index values k)

abbrev pub value_words : List ProtoArg → (values : List ℕ) → List (List ℕ)
value_words proto values = map (value_word proto values) (range_with_len 0 (length proto))

abbrev pub got_text : List ProtoArg → (values : List ℕ) → List ℕ
got_text proto values = ended (labelled (codes "got") (value_words proto values))

-- the frame is told where the script did not give it
abbrev pub first_frame_text : Conv → Call → List ℕ
first_frame_text conv call = if call.entered then [] else frame_text conv call.frame

-- an object behind a forwarder is entered with the frame of a call with the same values
abbrev pub stop_frame : List ProtoArg → (values : List ℕ) → Stop → FrameView
stop_frame proto values s = frame_to s.conv proto s.object values

abbrev pub stop_text : (slot : ℕ) → List ProtoArg → (values : List ℕ) → Stop → List ℕ
stop_text slot proto values s =
    slot_text slot
    ++ frame_text s.conv (stop_frame proto values s)
    ++ got_text proto values

unfoldable pub call_text : Table → State → Conv → Call → (values : List ℕ) → List ℕ
call_text table state conv call values =
    slot_text call.slot
    ++ first_frame_text conv call
    ++ got_text call.proto values
    ++ flat_map (stop_text call.slot call.proto values) (drop 1 (chain state conv call))
    ++ result_text (reply_to state conv call values).result
    ++ flat_map (out_line table conv (after state conv call values)) (out_positions call)

-- ---- the sights

-- the frame with which each object on the way is entered
abbrev pub frames : State → Conv → Call → (values : List ℕ) → List FrameView
frames state conv call values =
    call.frame ∷ map (stop_frame call.proto values) (drop 1 (chain state conv call))

abbrev pub last_frame : FrameView → List FrameView → FrameView
last_frame first frames = fold (λ f g. g) first frames

-- what is shown before an object is entered with a frame, and after the reply
abbrev pub sight_before : State → Conv → Call → FrameView → Sight
sight_before state conv call frame = sight conv (memory_before state call) frame

abbrev pub sight_after : State → Conv → Call → (values : List ℕ) → FrameView → Sight
sight_after state conv call values frame =
    sight conv (reply_to state conv call values).memory frame

-- one sight for each frame on the way, and one more of the last
unfoldable pub call_sights : State → Conv → Call → (values : List ℕ) → List Sight
call_sights state conv call values =
    map (sight_before state conv call) (frames state conv call values)
    ++ sight_after state conv call values (last_frame call.frame (frames state conv call values))
    ∷ []
