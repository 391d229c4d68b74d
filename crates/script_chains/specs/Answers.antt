-- A call that has begun on a machine, in a state of a script, and what came of it.
use Rattle.std.specs.Prelude.{◌≡◌, ℕ, ◌<◌, ◌≤◌, true, List, ◌++◌, drop, length, Some}
use Rattle.std.specs.List.{flat_map}
use Rattle.call_model.specs.Placement.{stack_len_of}
use Rattle.call_model.specs.Prototype.{types_of}
use Rattle.descriptor_reader.specs.Views.{MethodOf}
use Rattle.invoke_by_index.specs.Methods.{prototype}
use Rattle.object_memory.specs.declared.layout.TheConstants.{SLOTS}
use Rattle.object_memory.specs.Memory.{MachineView, entry_at}
use Rattle.stub_dispatch.specs.Calls.{this_in}
use Rattle.transcript_text.specs.Texts.{result_text}
use Rattle.xp_base.specs.LittleEndian.{low_bytes}
use Rattle.call_replies.specs.Blocks.{Block, HoldsBlocks}
use Rattle.call_replies.specs.Items.{takes_items}
use Rattle.call_replies.specs.Repliers.{items_of}
use Rattle.call_replies.specs.Writes.{IsReply, SameButBytes, has_cells}
use Rattle.script_meaning.specs.Calls.{Call, asked, chain, got_text, reply_to, stop_text, values_received}
use Rattle.script_meaning.specs.Chain.{answering}
use Rattle.script_meaning.specs.Lawful.{AreLawful}
use Rattle.script_meaning.specs.State.{State, number_in, object_numbered}
use Rattle.script_objects.specs.declared.rules.Rules.{Rules}
use Rattle.script_objects.specs.Known.{AreKnown, ObjectsView}
use Rattle.script_objects.specs.Ruling.{known_rules}
use Rattle.script_chains.specs.declared.begun.Answered.{Answered}
use Rattle.script_chains.specs.declared.begun.Begun.{Begun}

-- the call of a method of an object, with a frame and cells that stand on a machine
abbrev pub call_on : MachineView → Begun → MethodOf → Block → (cells : List ℕ) → Call
call_on m begun method object cells = record {
  object = object;
  slot = method.slot;
  proto = prototype method;
  entered = begun.entered;
  frame = m.frame;
  cells = cells;
}

-- the object on the way that answers; its rule
abbrev pub answers_in : State → MachineView → Call → Block
answers_in state m call = answering call.object (chain state m.conv call)

-- the machine stands for the state, and the call has begun on it: the frame passes the address of
-- the object that is entered, and has the stack that the arguments need; each value in a cell has a
-- pushed one; and the rule of the object that answers suits the method
pub record HasBegun
    (m : MachineView)
    (objects : ObjectsView)
    (rules : Rules)
    (begun : Begun)
    (method : MethodOf)
    (state : State)
    (call : Call)
    : Type 0 where
  pub lawful : AreLawful m.conv state.blocks
  pub holds : HoldsBlocks m state.blocks
  pub known : AreKnown m.conv objects state.blocks
  pub rules_are : known_rules rules ≡ state.rules
  pub call_is : call ≡ call_on m begun method call.object call.cells
  pub object : object_numbered state.blocks begun.number ≡ Some call.object
  pub slot : call.slot < SLOTS
  pub cells_are : m.cells ≡ flat_map (low_bytes 8) call.cells
  pub this : this_in m.conv call.frame ≡ call.object.at
  pub entry : entry_at m call.object.at call.slot ≡ Some begun.entry
  pub enough : stack_len_of m.conv (types_of call.proto) ≤ length call.frame.stack
  pub has_cells : has_cells (asked call (values_received m.conv call)) m.cells ≡ true
  pub suits : takes_items
      call.proto
      (items_of (state.rules (number_in (answers_in state m call).held) call.slot))
      ≡ true

-- the lines from the values that the first object received to the result
abbrev pub answer_text : State → MachineView → Call → (values : List ℕ) → (result : ℕ) → List ℕ
answer_text state m call values result =
    got_text call.proto values
    ++ flat_map (stop_text call.slot call.proto values) (drop 1 (chain state m.conv call))
    ++ result_text result

-- each object received the values of the first frame; the one that answers made its reply, and all
-- is told
pub record IsAnswered
    (state : State)
    (before after : MachineView)
    (call : Call)
    (answered : Answered)
    : Type 0 where
  pub values_are : answered.values ≡ values_received before.conv call
  pub replied : IsReply
      (reply_to state before.conv call (values_received before.conv call))
      after
      answered.result
  pub rest_stays : SameButBytes (record before { frame = after.frame }) after
  pub text : answered.text
      ≡ answer_text state before call (values_received before.conv call) answered.result
