-- What a forwarder is, and what a call of it does.
use Rattle.std.specs.Prelude.{◌≡◌, ℕ, Bool, true, false, ◌&&◌, ◌==◌, is_some, List, [], ◌∷◌, length, Some}
use Rattle.call_model.specs.declared.places.Conv.{Conv}
use Rattle.call_model.specs.Placement.{word_of}
use Rattle.call_model.specs.Prototype.{types_of}
use Rattle.call_model.specs.Values.{placed}
use Rattle.object_memory.specs.Lends.{with_frame}
use Rattle.object_memory.specs.Memory.{MachineView, entry_at}
use Rattle.proxy_objects.specs.Handing.{HandsOn}
use Rattle.stub_dispatch.specs.Calls.{Call}

-- the convention and the object under which and to which it hands its calls on; how many arguments
-- its method has; and the values of the last call that it handed on, and the entry of that call
pub record ForwarderView : Type 0 where
  pub conv : Conv
  pub target : ℕ
  pub positions : ℕ
  pub received : List ℕ
  pub entry : ℕ

-- a forwarder before any call
abbrev pub new_forwarder : Conv → (target positions : ℕ) → ForwarderView
new_forwarder conv target positions =
    record { conv = conv; target = target; positions = positions; received = []; entry = 0 }

-- a call can be handed on: its method has the forwarder's number of arguments, the word is the
-- machine's, and the target leads to an entry of the slot
abbrev pub can_hand_on : ForwarderView → MachineView → Call → Bool
can_hand_on forwarder machine call =
    (length call.proto == forwarder.positions)
    && (word_of forwarder.conv == word_of machine.conv)
    && is_some (entry_at machine forwarder.target call.slot)

-- the answer where it can't
abbrev pub invalid_pointer : ℕ
invalid_pointer = 0x80004003

-- a call of the target begins with the values that were received, which are kept with its entry
pub record HandsCallOn
    (before : ForwarderView)
    (machine : MachineView)
    (call : Call)
    (after : ForwarderView)
    (machine_after : MachineView)
    (answer : ℕ)
    : Type 0 where
  pub begins : machine_after
      ≡ with_frame
      machine
      (placed before.conv (types_of call.proto) (before.target ∷ call.cells))
  pub values : HandsOn before.conv call.proto before.target call.cells machine_after.frame
  pub loads : entry_at machine before.target call.slot ≡ Some after.entry
  pub keeps : after ≡ record before { received = call.cells; entry = after.entry }
  pub answers : answer ≡ 0

-- what a call of a forwarder does
pub record Reacts
    (before : ForwarderView)
    (machine : MachineView)
    (call : Call)
    (after : ForwarderView)
    (machine_after : MachineView)
    (answer : ℕ)
    : Type 0 where
  pub hands_on : can_hand_on before machine call ≡ true
      → HandsCallOn before machine call after machine_after answer
  pub refuses : can_hand_on before machine call ≡ false
      → (after ≡ before) × (machine_after ≡ machine) × (answer ≡ invalid_pointer)
  -- no byte changes
  pub frame_alone : machine_after ≡ with_frame machine machine_after.frame
