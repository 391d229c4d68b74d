use Rattle.std.proofs.Common.{sym, ◌∙◌}
use Rattle.entered_frames.proofs.Names.{takes-fpr, takes-gpr}
use Rattle.entered_frames.proofs.registers.takes_register.Goals as goal

pub returns-then-is_behind_first : goal.returns-then-is_behind_first
returns-then-is_behind_first c =
    c.if-is_behind_first.true
    ∙ takes-gpr c.args.conv c.args.name.now c.gpr_names.result.now c.gpr_names.ensures.names
    (sym c.if-is_behind_first.true ∙ c.is_behind_first.ensures)

pub returns-else-is_behind_first : goal.returns-else-is_behind_first
returns-else-is_behind_first c =
    c.is_among.ensures
    ∙ takes-fpr c.args.conv c.args.name.now c.gpr_names.result.now c.gpr_names.ensures.names
    c.fpr_names.result.now c.fpr_names.ensures.names
    (sym c.if-is_behind_first.false ∙ c.is_behind_first.ensures)
