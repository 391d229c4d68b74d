use Rattle.std.proofs.Common.{◌∙◌}
use Rattle.invoke_by_index.specs.Arguments.{cells_of}
use Rattle.invoke_by_index.specs.Cells.{with_numbers}
use Rattle.invoke_by_index.specs.Methods.{prototype}
use Rattle.begun_calls.proofs.Pushed.{args-filled, base-is}
use Rattle.begun_calls.proofs.arguments.push_args.Goals as goal

pub returns-in-Ok-clause-pushed : goal.returns-in-Ok-clause-pushed
returns-in-Ok-clause-pushed c =
    let m = c.args.machine.now in
    let proto = prototype c.args.method.now in
    let count = c.positions-count.result in
    let first = base-is m c.requires.none_pushed count c.push_cells-base.result c.push_cells-base.ensures.address in
    let pushed = c.push_cells-base.ensures.pushed in
    c.in-Ok.ensures.alone
    ∙ (λ i. with_numbers (pushed i) (first i) (cells_of (pushed i).conv (first i) c.args.context proto c.args.args.now))
    ∙ args-filled m c.requires.none_pushed count c.args.context proto c.args.args.now c.positions-count.ensures.length
