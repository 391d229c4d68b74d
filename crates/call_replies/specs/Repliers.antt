-- What a replier is, and what its call does to a machine.
use Rattle.std.specs.Prelude.{◌≡◌, ℕ, Bool, false, ◌&&◌, ◌==◌, List, [], length, Option, Some, None, if◌then◌else◌}
use Rattle.call_model.specs.declared.places.Conv.{Conv}
use Rattle.call_scripts.specs.declared.script.ReplyItem.{ReplyItem}
use Rattle.object_memory.specs.Memory.{MachineView}
use Rattle.call_replies.specs.Blocks.{Block, HoldsBlocks}
use Rattle.call_replies.specs.Items.{takes_items}
use Rattle.call_replies.specs.Reply.{Asked, Memory, Replied, invalid_pointer, reply, unchanged}
use Rattle.stub_dispatch.specs.Calls.{Call}
use Rattle.call_replies.specs.Writes.{IsReply, LeavesOthers, SameButBytes, asked_by, has_cells, memory_of}

-- whether it answers an entered method; its rule; how many arguments its method has; and the values
-- that the last such method received
pub record ReplierView : Type 0 where
  pub entered : Bool
  pub rule : Option (List ReplyItem)
  pub positions : ℕ
  pub received : List ℕ

-- the items of a rule; none without one
abbrev pub items_of : Option (List ReplyItem) → List ReplyItem
items_of None = []
items_of (Some rule) = rule

-- the method has so many arguments, each item of the rule suits it, and a call has its cells
abbrev pub suits : ReplierView → Asked → (cells : List ℕ) → Bool
suits replier call cells =
    (length call.proto == replier.positions)
    && takes_items call.proto (items_of replier.rule)
    && has_cells call cells

abbrev pub answer_to : Conv → ReplierView → Asked → Memory → Replied
answer_to conv replier call memory =
    if suits replier call memory.cells then reply conv replier.rule call memory
    else unchanged memory invalid_pointer

-- it keeps the values of a method that has its number of arguments
abbrev pub kept : ReplierView → Asked → ReplierView
kept replier call =
    if length call.proto == replier.positions then record replier { received = call.values }
    else replier

-- what a call of a replier does to a machine. On a machine that holds blocks it is answered by the
-- reply. A call that does not suit it changes nothing; and whatever the machine holds, no byte
-- changes but those of targets
pub record Acts
    (replier : ReplierView)
    (call : Asked)
    (before after : MachineView)
    (result : ℕ)
    : Type 0 where
  pub replies : (blocks : List Block) → HoldsBlocks before blocks
      → IsReply (answer_to before.conv replier call (memory_of before blocks)) after result
  pub refuses : suits replier call before.cells ≡ false
      → (after ≡ before) × (result ≡ invalid_pointer)
  pub others_stay : LeavesOthers call (items_of replier.rule) before after
  pub rest_stays : SameButBytes before after

-- a replier before any call
abbrev pub new_replier : (entered : Bool) → Option (List ReplyItem) → (positions : ℕ) → ReplierView
new_replier entered rule positions =
    record { entered = entered; rule = rule; positions = positions; received = [] }

-- a call is kept and answered, as one of an entered method or as one through cells
pub record Reacts
    (before : ReplierView)
    (machine : MachineView)
    (call : Call)
    (after : ReplierView)
    (machine_after : MachineView)
    (answer : ℕ)
    : Type 0 where
  pub keeps : after ≡ kept before (asked_by before.entered call.proto call.cells)
  pub acts : Acts
      before
      (asked_by before.entered call.proto call.cells)
      machine
      machine_after
      answer
