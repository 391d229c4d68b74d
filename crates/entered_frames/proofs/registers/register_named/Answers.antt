use Rattle.std.proofs.Common.{sym, ◌∙◌}
use Rattle.entered_frames.proofs.Names.{fpr-named, gpr-named, none-named}
use Rattle.entered_frames.proofs.registers.register_named.Goals as goal

pub returns-in_err-r-in-None-clause-register : goal.returns-in_err-r-in-None-clause-register
returns-in_err-r-in-None-clause-register c =
    c.from_residual.ensures
    ∙ none-named c.args.conv c.args.name.now c.gpr_names.result.now c.gpr_names.ensures.names
    c.fpr_names.result.now c.fpr_names.ensures.names
    (sym c.in-None.is ∙ c.place_among.ensures.place)
    (sym c.in_err-r-in-None.was ∙ c.place_among-in-None.ensures.place)

pub returns-in-Some-clause-register : goal.returns-in-Some-clause-register
returns-in-Some-clause-register c =
    gpr-named c.args.conv c.args.name.now c.gpr_names.result.now c.gpr_names.ensures.names
    c.in-Some.r (sym c.in-Some.is ∙ c.place_among.ensures.place)

pub returns-in_ok-r-in-None-clause-register : goal.returns-in_ok-r-in-None-clause-register
returns-in_ok-r-in-None-clause-register c =
    fpr-named c.args.conv c.args.name.now c.gpr_names.result.now c.gpr_names.ensures.names
    c.fpr_names.result.now c.fpr_names.ensures.names c.in_ok-r-in-None.r
    (sym c.in-None.is ∙ c.place_among.ensures.place)
    (sym c.in_ok-r-in-None.was ∙ c.place_among-in-None.ensures.place)
