use Rattle.std.proofs.Common.{sym, ap, ◌∙◌}
use Rattle.call_model.specs.Values.{canon}
use Rattle.invoke_by_index.specs.Methods.{prototype}
use Rattle.call_replies.specs.Items.{is_by_cell}
use Rattle.script_outs.proofs.Positions.{of-cell, of-none}
use Rattle.script_outs.proofs.values.pattern_after.Goals as goal

pub returns-in-None : goal.returns-in-None
returns-in-None c = λ held.
    of-none c.args.machine.now held (prototype c.args.method.now) c.args.values.now c.args.k
    (sym c.arg.ensures ∙ c.in-None.is) c.requires.paired

pub returns-in-ByCell : goal.returns-in-ByCell
returns-in-ByCell c = λ held.
    c.canonical.ensures.pattern
    ∙ (λ j. canon (c.conv.ensures j) c.in-Some.arg.ty (c.cell_at.ensures j))
    ∙ of-cell c.args.machine.now held (prototype c.args.method.now) c.args.values.now c.args.k
    c.in-Some.arg (sym c.arg.ensures ∙ c.in-Some.is) (ap is_by_cell c.in-ByCell.is)
