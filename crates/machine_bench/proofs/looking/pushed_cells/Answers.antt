use Rattle.std.proofs.Common.{◌≡◌, ◌+◌, ◌*◌, ◌≤◌, length, take, get_or, unwrap_or, ◌++◌, ◌∷◌, [], Some, sym, ◌∙◌, ap, refl, arith}
use Rattle.object_memory.specs.Cells.{cell_numbers}
use Rattle.machine_bench.proofs.PushedCells.{all-of-them, one-more}
use Rattle.machine_bench.proofs.looking.pushed_cells.Goals as goal

pub loop-k-preserved : goal.loop-k-preserved
loop-k-preserved c =
    let cells = c.args.machine.now.cells in
    let pushed : 8 * c.loop-k.k + 8 ≤ length cells = omega arith in
    let loaded : c.load.result ≡ Some (get_or (cell_numbers cells) c.loop-k.k 0) =
    c.load.ensures.cell refl c.loop-k.k (ap (λ k. 1073741824 + 8 * k) c.from.ensures, pushed) in
    let number : c.unwrap_or-number.result ≡ get_or (cell_numbers cells) c.loop-k.k 0 =
    c.unwrap_or-number.ensures ∙ ap (λ l. unwrap_or l 0) loaded in
    c.in_ok-push.ensures.ok
    ∙ ap (λ l. l ++ c.unwrap_or-number.result ∷ []) c.loop-k.invariant
    ∙ ap (λ n. take c.loop-k.k (cell_numbers cells) ++ n ∷ []) number
    ∙ sym (one-more cells c.cells_free-pushed.result c.loop-k.k c.cells_free-pushed.ensures c.loop-k-test.true)

pub returns : goal.returns
returns c =
    c.loop-k.invariant
    ∙ all-of-them c.args.machine.now.cells c.cells_free-pushed.result c.loop-k.k c.cells_free-pushed.ensures c.loop-k-test.false
