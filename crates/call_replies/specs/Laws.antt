-- What is true of replies, and of the writes that they make on a machine.
use Rattle.std.specs.Prelude.{◌≡◌, ℕ, ◌*◌, ◌%◌, true, false, List, ◌∷◌, length, Some}
use Rattle.call_model.specs.declared.places.Conv.{Conv}
use Rattle.call_model.specs.declared.prototypes.ProtoArg.{ProtoArg}
use Rattle.call_model.specs.Prototype.{types_of}
use Rattle.call_model.specs.Values.{FrameView, placed}
use Rattle.invoke_by_index.specs.Calls.{values_in}
use Rattle.stub_dispatch.specs.Cells.{received_cells}
use Rattle.call_scripts.specs.declared.script.ReplyItem.{ReplyItem}
use Rattle.object_memory.specs.Memory.{MachineView, InCells, IsLaidOut}
use Rattle.call_replies.specs.Blocks.{Block, HoldsBlocks}
use Rattle.call_replies.specs.Items.{takes_items}
use Rattle.call_replies.specs.Reply.{Asked, Memory, Write, reply, result_of, writes_of}
use Rattle.call_replies.specs.Writes.{IsReply, LeavesOthers, SameButBytes, after_writes, asked_by, has_cells, memory_of, planned}

-- on a machine that holds blocks, the writes of a rule that suits a call leave what the reply says
abbrev pub WritesReply : Type 0
WritesReply =
    (m : MachineView) (blocks : List Block) → IsLaidOut m → HoldsBlocks m blocks
    → (call : Asked) (rule : List ReplyItem)
    → takes_items call.proto rule ≡ true → has_cells call m.cells ≡ true
    → (writes : List Write) → writes_of m.conv call (memory_of m blocks) rule ≡ Some writes
    → IsReply
    (reply m.conv (Some rule) call (memory_of m blocks))
    (after_writes m writes)
    (result_of rule)

-- the writes of a rule are those that its items plan, for some values
abbrev pub ArePlanned : Type 0
ArePlanned =
    (conv : Conv) (call : Asked) (memory : Memory) (rule : List ReplyItem) (writes : List Write)
    → writes_of conv call memory rule ≡ Some writes
    → (values : List ℕ) × (writes ≡ planned conv call rule values)

-- a call that begins with the cells from `base` on is received with a pushed cell for each value in
-- a cell
abbrev pub FindsCells : Type 0
FindsCells =
    (conv : Conv) (m : MachineView) (base : ℕ) (proto : List ProtoArg) (this : ℕ)
    → IsLaidOut m → InCells m base (8 * length proto) → base % 8 ≡ 0
    → let frame = placed conv (types_of proto) (this ∷ values_in m base proto) in
    has_cells (asked_by false proto (received_cells conv proto frame)) m.cells ≡ true

-- the blocks of a machine are held whatever its cells and its frame are
abbrev pub HoldsBeside : Type 0
HoldsBeside =
    (m : MachineView) (blocks : List Block) (cells : List ℕ) (frame : FrameView)
    → HoldsBlocks m blocks → HoldsBlocks (record m { cells = cells; frame = frame }) blocks

-- whatever a machine holds and whatever the values are, what a rule writes changes no byte but
-- those of its targets, and nothing else of the machine
abbrev pub SparesOthers : Type 0
SparesOthers =
    (m : MachineView) (call : Asked) (rule : List ReplyItem) (values : List ℕ)
    → LeavesOthers call rule m (after_writes m (planned m.conv call rule values))
    × SameButBytes m (after_writes m (planned m.conv call rule values))
