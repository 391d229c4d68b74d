use Rattle.std.proofs.Common.{◌≡◌, take}
use Rattle.object_memory.specs.Cells.{cell_numbers}
use Rattle.machine_bench.proofs.looking.pushed_cells.Given as goal

-- the numbers of the cells so far
abbrev pub invariant-loop-k : goal.invariant-loop-k
invariant-loop-k l = l.cells ≡ take l.k (cell_numbers l.machine.cells)
