-- What is read at the address of a cell is the cell's number.
use Rattle.std.proofs.Common.{subst, sym, ap, ◌∙◌, Some}
use Rattle.std.specs.Option.{option_map}
use Rattle.xp_base.specs.LittleEndian.{number_of}
use Rattle.object_memory.specs.Memory.{InCells, cell_bytes}
use Rattle.object_memory.proofs.Stores.{loads-cell}
use Rattle.object_memory.proofs.machine.Machine.load.Goals as goal

pub returns-clause-cell : goal.returns-clause-cell
returns-clause-cell c =
    let m = c.args.self.now in let at = c.args.at in let n = c.bytes.ensures in
    loads-cell m at c.args.width (Some c.number_of_bytes.result)
    (λ inside.
    ap Some c.number_of_bytes.ensures.value
    ∙ ap (option_map number_of) (c.in_ok-bytes.ensures.in_cells (subst (λ k. InCells m at k) (sym n) inside))
    ∙ ap (λ k. Some (number_of (cell_bytes m at k))) n)
