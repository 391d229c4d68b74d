-- What a machine that holds blocks shows of a call after its reply.
use Rattle.std.specs.Prelude.{ℕ, List}
use Rattle.call_model.specs.declared.prototypes.ProtoArg.{ProtoArg}
use Rattle.object_memory.specs.Cells.{cell_numbers}
use Rattle.object_memory.specs.Memory.{MachineView}
use Rattle.call_replies.specs.Blocks.{Block}
use Rattle.script_meaning.specs.Outs.{After}

-- the values that were received, and the numbers in the pushed cells
abbrev pub after_on : MachineView → List Block → List ProtoArg → (values : List ℕ) → After
after_on m blocks proto values = record {
  proto = proto;
  values = values;
  cells = cell_numbers m.cells;
  blocks = blocks;
}
