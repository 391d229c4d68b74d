-- The way of a call: the objects behind the one that is entered first, as far as the one that
-- answers, and what is left of a machine, told and shown on the way.
use Rattle.std.specs.Prelude.{◌≡◌, ℕ, ◌<◌, ◌≤◌, List, ◌∷◌, ◌++◌, drop, length, map, Option, Some}
use Rattle.std.specs.List.{flat_map}
use Rattle.call_model.specs.declared.places.Conv.{Conv}
use Rattle.call_model.specs.declared.prototypes.ProtoArg.{ProtoArg}
use Rattle.call_model.specs.Placement.{stack_len_of, word_of}
use Rattle.call_model.specs.Prototype.{types_of}
use Rattle.call_model.specs.Values.{FrameView}
use Rattle.descriptor_reader.specs.Views.{MethodOf}
use Rattle.invoke_by_index.specs.Methods.{prototype}
use Rattle.machine_bench.specs.declared.sight.Sight.{Sight}
use Rattle.machine_bench.specs.Seen.{Saw, sight_of}
use Rattle.object_memory.specs.declared.layout.TheConstants.{SLOTS}
use Rattle.object_memory.specs.Lends.{with_frame}
use Rattle.object_memory.specs.Memory.{MachineView, entry_at}
use Rattle.stub_dispatch.specs.Calls.{this_in}
use Rattle.stub_dispatch.specs.Cells.{received_cells}
use Rattle.transcript_text.specs.Texts.{frame_text, slot_text}
use Rattle.call_replies.specs.Blocks.{Block, HoldsBlocks}
use Rattle.script_meaning.specs.Calls.{frame_to, got_text, last_frame, stop_frame}
use Rattle.script_meaning.specs.Chain.{Stop, answering, chain_of, conv_behind, target_in}
use Rattle.script_meaning.specs.Lawful.{AreLawful}
use Rattle.script_meaning.specs.State.{object_numbered}
use Rattle.script_objects.specs.Known.{AreKnown, ObjectsView}
use Rattle.script_chains.specs.declared.visit.Visit.{Visit}

-- ---- visits

-- a machine that holds lawful blocks, whose objects are known, is about to enter an object with
-- these values: its frame passes the object's address and the values
pub record IsAt
    (m : MachineView)
    (objects : ObjectsView)
    (method : MethodOf)
    (visit : Visit)
    (blocks : List Block)
    (b : Block)
    (values : List ℕ)
    : Type 0 where
  pub lawful : AreLawful m.conv blocks
  pub holds : HoldsBlocks m blocks
  pub known : AreKnown m.conv objects blocks
  pub object : object_numbered blocks visit.number ≡ Some b
  pub slot : method.slot < SLOTS
  pub word : word_of visit.conv ≡ word_of m.conv
  pub this : this_in visit.conv m.frame ≡ b.at
  pub entry : entry_at m b.at method.slot ≡ Some visit.entry
  pub enough : stack_len_of visit.conv (types_of (prototype method)) ≤ length m.frame.stack
  pub receives : received_cells visit.conv (prototype method) m.frame ≡ values

-- ---- handing on

-- the lines for a forwarder that hands the call on to the object of a stop
abbrev pub handed_text : (slot : ℕ) → List ProtoArg → (values : List ℕ) → Stop → List ℕ
handed_text slot proto values s =
    got_text proto values ++ slot_text slot ++ frame_text s.conv (stop_frame proto values s)

-- the call was handed on: the machine is about to enter the target with the same values
pub record IsHandedOn
    (before after : MachineView)
    (objects : ObjectsView)
    (method : MethodOf)
    (visit next : Visit)
    (blocks : List Block)
    (b : Block)
    (values : List ℕ)
    (told tells : List ℕ)
    : Type 0 where
  pub target : Block
  pub is : target_in blocks b.held ≡ Some target
  pub conv : next.conv ≡ conv_behind b.held visit.conv
  pub frame : after ≡ with_frame before (frame_to next.conv (prototype method) target values)
  pub at : IsAt after objects method next blocks target values
  pub text : tells
      ≡ told
      ++ handed_text
      method.slot
      (prototype method)
      values
      (record { object = target; conv = next.conv })

-- ---- the way

-- the stops behind an object that is entered under a convention
abbrev pub behind : List Block → Conv → Block → List Stop
behind blocks conv b = drop 1 (chain_of blocks conv b)

-- what a machine shows before a stop is entered
abbrev pub sight_at : MachineView → List ProtoArg → (values : List ℕ) → Stop → Sight
sight_at m proto values s = sight_of (with_frame m (stop_frame proto values s))

-- what it shows on all the way
abbrev pub sights_of : MachineView → MethodOf → List Block → Conv → Block → (values : List ℕ)
    → List Sight
sights_of m method blocks conv b values =
    sight_of m ∷ map (sight_at m (prototype method) values) (behind blocks conv b)

-- the frame with which the last stop is entered
abbrev pub end_frame : MachineView → MethodOf → List Stop → (values : List ℕ) → FrameView
end_frame m method stops values =
    last_frame m.frame (map (stop_frame (prototype method) values) stops)

-- the call was run as far as the object that answers, which it is about to enter
pub record IsPassedOn
    (before after : MachineView)
    (objects : ObjectsView)
    (method : MethodOf)
    (visit last : Visit)
    (blocks : List Block)
    (b : Block)
    (values : List ℕ)
    (told : List ℕ × List ℕ)
    (seen : Option (List Sight) × Option (List Sight))
    : Type 0 where
  pub at : IsAt
      after
      objects
      method
      last
      blocks
      (answering b (behind blocks visit.conv b))
      values
  pub frame : after
      ≡ with_frame before (end_frame before method (behind blocks visit.conv b) values)
  pub text : told.1
      ≡ told.0
      ++ flat_map
      (handed_text method.slot (prototype method) values)
      (behind blocks visit.conv b)
  pub saw : Saw seen.0 seen.1 (sights_of before method blocks visit.conv b values)
