use Rattle.std.proofs.Common.{◌∙◌, refl}
use Rattle.idl_grammar.specs.declared.terminal.Mark.TheVariants.{Comma}
use Rattle.idl_grammar.specs.declared.terminal.Terminal.TheVariants as terminal
use Rattle.idl_grammar.specs.Grammar.{word}
use Rattle.idl_grammar.proofs.Loops.{passed-after}
use Rattle.idl_grammar.proofs.members.pass_names.Goals as goal

pub turns-preserved : goal.turns-preserved
turns-preserved c =
    c.turns.invariant ∙ passed-after (terminal.Mark Comma) word refl c.turns.cursor _ _ _ _ c.in_ok-take_mark.ensures c.in_ok-take.ensures
