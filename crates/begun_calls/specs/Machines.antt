-- Machines that calls begin on: the cells of a call, and the object that it enters.
use Rattle.std.specs.Prelude.{◌≡◌, ℕ, true, List, Some}
use Rattle.std.specs.List.{flat_map}
use Rattle.call_model.specs.declared.prototypes.ProtoArg.{ProtoArg}
use Rattle.call_scripts.specs.declared.script.EnterItem.{EnterItem}
use Rattle.descriptor_reader.specs.Views.{MethodOf}
use Rattle.invoke_by_index.specs.declared.args.Arg.{Arg}
use Rattle.invoke_by_index.specs.Arguments.{cells_of}
use Rattle.object_memory.specs.declared.layout.TheConstants.{CELLS_AT}
use Rattle.object_memory.specs.Lends.{with_frame}
use Rattle.object_memory.specs.Memory.{MachineView, entry_at}
use Rattle.xp_base.specs.LittleEndian.{low_bytes}
use Rattle.call_replies.specs.Blocks.{Block, HoldsBlocks}
use Rattle.script_meaning.specs.Enters.{entered_frame}
use Rattle.script_meaning.specs.Lawful.{AreLawful}
use Rattle.script_meaning.specs.State.{object_numbered}
use Rattle.script_objects.specs.Known.{AreKnown, ObjectsView}
use Rattle.script_chains.specs.declared.begun.Begun.{Begun}

-- the machine whose cells are those of a call with arguments: nothing else changed
abbrev pub with_args : MachineView → (context : ℕ) → List ProtoArg → List Arg → MachineView
with_args m context proto args = record m {
  cells = flat_map (low_bytes 8) (cells_of m.conv CELLS_AT context proto args);
}

-- the machine holds lawful blocks, whose objects are known, and this is the object of a number
pub record IsObjectOn (m : MachineView) (objects : ObjectsView) (blocks : List Block) (number : ℕ)
    (b : Block) : Type 0 where
  pub lawful : AreLawful m.conv blocks
  pub holds : HoldsBlocks m blocks
  pub known : AreKnown m.conv objects blocks
  pub is : object_numbered blocks number ≡ Some b

-- the frame of an enter stands on the machine, and nothing else changed
pub record HasEntered (old new : MachineView) (method : MethodOf) (items : List EnterItem)
    (b : Block) (object : ℕ) (begun : Begun) : Type 0 where
  pub frame : new ≡ with_frame old (entered_frame old.conv b.at items)
  pub entry : entry_at old b.at method.slot ≡ Some begun.entry
  pub number : begun.number ≡ object
  pub entered : begun.entered ≡ true
