-- A forwarder on the way of a call, and what a call of it does.
use Rattle.std.specs.Prelude.{ℕ}
use Rattle.object_memory.specs.Memory.{MachineView}
use Rattle.script_calls.specs.Forwarders.{Reacts}
use Rattle.stub_dispatch.specs.Calls.{AreCanonical, Call}
use Rattle.script_chains.specs.declared.links.Link.{Link}

-- it hands the call on as its forwarder does, and was handed canonical patterns
pub record HandsValuesOn
    (before : Link)
    (machine : MachineView)
    (call : Call)
    (after : Link)
    (machine_after : MachineView)
    (answer : ℕ)
    : Type 0 where
  pub canonical : AreCanonical machine.conv call.proto call.cells
  pub reacts : Reacts before.forwarder machine call after.forwarder machine_after answer
