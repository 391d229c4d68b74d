use Rattle.std.proofs.Common.{◌∙◌}
use Rattle.idl_grammar.specs.declared.terminal.Mark.TheVariants.{Comma}
use Rattle.idl_grammar.specs.declared.terminal.Terminal.TheVariants as terminal
use Rattle.idl_grammar.specs.Grammar.{parameter}
use Rattle.idl_grammar.proofs.Loops.{after-turn, after-smaller}
use Rattle.idl_grammar.proofs.Predictive.{parameter-predictive}
use Rattle.idl_grammar.proofs.members.more_parameters.Goals as goal

pub turns-smaller : goal.turns-smaller
turns-smaller c = after-smaller (terminal.Mark Comma) parameter parameter-predictive _ _ _ _ _ c.in_ok-take_mark.ensures c.in_ok-one.ensures

pub turns-preserved : goal.turns-preserved
turns-preserved c =
    c.turns.invariant ∙ after-turn (terminal.Mark Comma) parameter parameter-predictive c.turns.found _ c.turns.cursor _ _ _ _ c.in_ok-take_mark.ensures c.in_ok-one.ensures c.in_ok-push.ensures.ok
