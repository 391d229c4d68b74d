-- What a bench is shown of a machine: plain numbers.
use Rattle.call_model.specs.declared.places.Conv.{Conv}
use Rattle.call_model.specs.Values.{FrameView}
use Rattle.machine_bench.specs.declared.sight.Sight.{Sight}
use Rattle.object_memory.specs.Cells.{cell_numbers}
use Rattle.object_memory.specs.Heap.{image}
use Rattle.call_replies.specs.Blocks.{contents}
use Rattle.call_replies.specs.Reply.{Memory}

abbrev pub sight : Conv → Memory → FrameView → Sight
sight conv memory frame = record {
  gprs = frame.gprs;
  fprs = frame.fprs;
  stack = frame.stack;
  cells = cell_numbers memory.cells;
  heap = image conv (contents memory.blocks);
}
