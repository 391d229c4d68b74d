use Rattle.std.proofs.Common.{◌∙◌}
use Rattle.idl_grammar.specs.declared.terminal.Mark.TheVariants.{Comma}
use Rattle.idl_grammar.specs.declared.terminal.Terminal.TheVariants as terminal
use Rattle.idl_grammar.specs.Grammar.{one_attribute}
use Rattle.idl_grammar.proofs.Loops.{after-turn, after-smaller}
use Rattle.idl_grammar.proofs.Predictive.{attribute-predictive}
use Rattle.idl_grammar.proofs.attributes.more_attributes.Goals as goal

pub turns-smaller : goal.turns-smaller
turns-smaller c = after-smaller (terminal.Mark Comma) one_attribute attribute-predictive _ _ _ _ _ c.in_ok-take_mark.ensures c.in_ok-one.ensures

pub turns-preserved : goal.turns-preserved
turns-preserved c =
    c.turns.invariant ∙ after-turn (terminal.Mark Comma) one_attribute attribute-predictive c.turns.found _ c.turns.cursor _ _ _ _ c.in_ok-take_mark.ensures c.in_ok-one.ensures c.in_ok-push.ensures.ok
