use Rattle.lib_model.specs.Table.{status_of}
use Rattle.invoke_by_index.specs.Methods.{prototype}
use Rattle.invoke_by_index.proofs.AfterFilling.{cells-after, holds-after, passes-after, pushed-after}
use Rattle.invoke_by_index.proofs.Parameters.{added-by-value}
use Rattle.invoke_by_index.proofs.cells.fill_cells.Goals as goal

pub returns-clause-filled : goal.returns-clause-filled
returns-clause-filled c =
    cells-after c.args.machine.now c.args.base c.args.context (prototype c.args.method.now) c.args.args.now c.requires.cells c.put_cells.new.machine c.put_cells.ensures

pub returns-clause-holds_still : goal.returns-clause-holds_still
returns-clause-holds_still c =
    holds-after c.args.machine.now c.args.base c.args.context (prototype c.args.method.now) c.args.args.now c.requires.cells c.put_cells.new.machine c.put_cells.ensures

pub returns-clause-pushed : goal.returns-clause-pushed
returns-clause-pushed c =
    pushed-after c.args.machine.now c.args.base c.args.context (prototype c.args.method.now) c.args.args.now c.requires.cells c.put_cells.new.machine c.put_cells.ensures

pub returns-clause-passes : goal.returns-clause-passes
returns-clause-passes c =
    passes-after c.args.machine.now c.args.base c.args.context (prototype c.args.method.now) c.args.args.now c.requires.cells c.put_cells.new.machine c.put_cells.ensures
    (added-by-value c.args.method.now.method (status_of c.args.method.now.method))
