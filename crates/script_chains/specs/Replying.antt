-- The reply of the object that answers a call.
use Rattle.std.specs.Prelude.{◌≡◌, ℕ, ◌≤◌, Bool, true, List, ◌++◌, length, Option, Some, None}
use Rattle.call_model.specs.Placement.{stack_len_of, word_of}
use Rattle.call_model.specs.Prototype.{types_of}
use Rattle.descriptor_reader.specs.Views.{MethodOf}
use Rattle.invoke_by_index.specs.Methods.{prototype}
use Rattle.object_memory.specs.Memory.{MachineView, entry_at}
use Rattle.stub_dispatch.specs.Calls.{IsObject, this_in}
use Rattle.stub_dispatch.specs.Cells.{received_cells}
use Rattle.transcript_text.specs.Texts.{result_text}
use Rattle.call_replies.specs.Blocks.{Block, HoldsBlocks}
use Rattle.call_replies.specs.Items.{takes_items}
use Rattle.call_replies.specs.Repliers.{items_of}
use Rattle.call_replies.specs.Reply.{Replied, reply}
use Rattle.call_replies.specs.Writes.{IsReply, SameButBytes, asked_by, has_cells, memory_of}
use Rattle.script_meaning.specs.Calls.{got_text}
use Rattle.script_meaning.specs.State as states
use Rattle.script_objects.specs.declared.rules.Rules.{Rules}
use Rattle.script_objects.specs.Ruling.{known_rules}
use Rattle.script_chains.specs.declared.begun.Answered.{Answered}
use Rattle.script_chains.specs.declared.visit.Visit.{Visit}

-- a machine is about to enter an object with these values; the object's rule suits the method, and
-- the call has its cells
pub record CanReply
    (m : MachineView)
    (rules : Rules)
    (method : MethodOf)
    (visit : Visit)
    (entered : Bool)
    (blocks : List Block)
    (b : Block)
    (values : List ℕ)
    : Type 0 where
  pub holds : HoldsBlocks m blocks
  pub object : IsObject m b.at visit.number
  pub word : word_of visit.conv ≡ word_of m.conv
  pub this : this_in visit.conv m.frame ≡ b.at
  pub entry : entry_at m b.at method.slot ≡ Some visit.entry
  pub enough : stack_len_of visit.conv (types_of (prototype method)) ≤ length m.frame.stack
  pub receives : received_cells visit.conv (prototype method) m.frame ≡ values
  pub has_cells : has_cells (asked_by entered (prototype method) values) m.cells ≡ true
  pub suits : takes_items
      (prototype method)
      (items_of (known_rules rules visit.number method.slot))
      ≡ true

-- the reply of the object by its rule
abbrev pub reply_of : MachineView → Rules → MethodOf → Visit → (entered : Bool) → List Block
    → (values : List ℕ) → Replied
reply_of m rules method visit entered blocks values =
    reply
    m.conv
    (known_rules rules visit.number method.slot)
    (asked_by entered (prototype method) values)
    (memory_of m blocks)

-- the rules with that of an object and a slot put back, where one was taken out
abbrev pub given_back : states.Rules → (object slot : ℕ) → Option states.Rule → states.Rules
given_back rules object slot None = rules
given_back rules object slot (Some rule) = states.ruled rules object slot rule

-- it was made and told
pub record HasReplied
    (before after : MachineView)
    (rules : Rules)
    (method : MethodOf)
    (visit : Visit)
    (entered : Bool)
    (blocks : List Block)
    (values : List ℕ)
    (told : List ℕ)
    (answered : Answered)
    : Type 0 where
  pub replied : IsReply
      (reply_of before rules method visit entered blocks values)
      after
      answered.result
  pub rest_stays : SameButBytes before after
  pub values_are : answered.values ≡ values
  pub text : answered.text
      ≡ told ++ (got_text (prototype method) values ++ result_text answered.result)
