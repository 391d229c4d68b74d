-- What a chain of a level repeats.
use Rattle.std.proofs.Common.{ℕ}
use Rattle.idl_grammar.specs.declared.level.Level.{Level}
use Rattle.idl_grammar.specs.Rule.{both}
use Rattle.idl_grammar.specs.Grammar.{operator, operands, unary}
use Rattle.idl_grammar.proofs.Chains.{chain-repeats}
use Rattle.idl_grammar.proofs.Loops.{Repeats}
use Rattle.idl_grammar.proofs.Predictive.{operands-predictive, operator-predictive, operator-filled, operator-ends}

pub level-repeats : (level : Level) (depth : ℕ) → Repeats (both (operator level) (operands level (unary depth)))
level-repeats level depth =
    chain-repeats (operator level) (operands level (unary depth)) (operator-predictive level) (operator-filled level) (operator-ends level) (operands-predictive level depth)
