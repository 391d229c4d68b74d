-- The object that a call enters, on its machine.
use Rattle.std.proofs.Common.{◌≡◌, ◌∙◌, ◌<◌, ℕ, List, Some, option_map, slice_get, ap}
use Rattle.object_memory.specs.declared.layout.TheConstants.{SLOTS}
use Rattle.object_memory.specs.Layout.{entry_of}
use Rattle.object_memory.specs.Memory.{MachineView, entry_at}
use Rattle.object_memory.proofs.Entries.{entry_is}
use Rattle.call_replies.specs.Blocks.{Block, contents}
use Rattle.script_objects.specs.Known.{ObjectsView, kept}
use Rattle.script_objects.proofs.Among.{kept-is, objects-stand}
use Rattle.script_chains.proofs.Stops.{is-among}
use Rattle.begun_calls.specs.Machines.{IsObjectOn}

module _ (m : MachineView) (objects : ObjectsView) (blocks : List Block) (number : ℕ) (b : Block)
    (on : IsObjectOn m objects blocks number b) where
  pub is-kept : slice_get objects.objects number ≡ Some (kept b)
  is-kept =
      ap (λ known. slice_get known number) on.known.objects
      ∙ kept-is blocks on.lawful.numbered number
      ∙ ap (option_map kept) on.is

  -- its entries are those of the vtable
  pub has-entry : (slot : ℕ) → slot < SLOTS → entry_at m b.at slot ≡ Some (entry_of slot)
  has-entry slot few =
      entry_is m (contents blocks) b.at slot on.holds.heap
      (is-among m b.at number (objects-stand m blocks on.holds on.lawful number b on.is)) few
