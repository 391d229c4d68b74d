-- The cells that are pushed are zeros behind those that were there.
use Rattle.std.proofs.Common.{◌≡◌, ℕ, ◌+◌, ◌-◌, ◌*◌, ◌≤◌, List, ◌++◌, length, take, replicate, ap, ◌∙◌, arith}
use Rattle.std.proofs.lemmas.List.{length-replicate, length-take-le}
use Rattle.raw_block.specs.Bytes.{overwritten}
use Rattle.object_memory.specs.Cells.{cell_numbers}
use Rattle.object_memory.specs.Memory.{MachineView}
use Rattle.object_memory.proofs.CellNumbers.{cell_numbers-pushed}
use Rattle.object_memory.proofs.Lists.{take_written}
use Rattle.object_memory.proofs.machine.Machine.push_cells.Goals as goal

pub returns-clause-zeros : goal.returns-clause-zeros
returns-clause-zeros c =
    let f = c.self.inside in let m = c.args.self.now in let n = c.args.n in let start = 8 * f.pushed in
    let zeros : List ℕ = replicate (8 * n) 0 in
    let view = ap (λ (k : MachineView). k.cells) c.self.view_is in
    let fits : start ≤ length f.cells = omega (arith, c.self.invariant.all_cells, c.self.invariant.in_cells) in
    let whole : length m.cells ≡ start = omega (arith, ap (λ (l : List ℕ). length l) view, length-take-le start f.cells fits) in
    let count : start + 8 * n - start ≡ 8 * n = omega arith in
    let long : length zeros ≡ 8 * n = length-replicate (8 * n) 0 in
    let within : start + length zeros ≤ length f.cells = omega (arith, c.requires, whole, long, c.self.invariant.all_cells) in
    let ends : 8 * (f.pushed + n) ≡ start + length zeros = omega (arith, long) in
    let all : take (8 * (f.pushed + n)) c.zero.new.block ≡ m.cells ++ zeros
    = (λ i. take (ends i) ((c.zero.ensures.zeros ∙ ap (λ k. overwritten f.cells start (replicate k 0)) count) i))
    ∙ take_written f.cells start zeros within ∙ ap (λ l. l ++ zeros) view in
    ap cell_numbers all ∙ cell_numbers-pushed m.cells f.pushed n whole
