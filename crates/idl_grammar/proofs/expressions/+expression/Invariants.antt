use Rattle.std.proofs.Common.{◌≡◌, ◌+◌, ◌*◌, length}
use Rattle.idl_grammar.specs.Grammar as spec
use Rattle.idl_grammar.specs.Rule.{both, many}
use Rattle.idl_grammar.specs.Read.{read}
use Rattle.idl_grammar.specs.Gives.{more, plain}
use Rattle.idl_grammar.proofs.Depths.{rank}
use Rattle.idl_grammar.proofs.expressions.+expression.Given as goal

abbrev pub decreases-chain : goal.decreases-chain
decreases-chain l = 12 * l.depth + 2 * rank l.level + 2

abbrev pub decreases-negation : goal.decreases-negation
decreases-negation l = 12 * l.depth + 9

abbrev pub decreases-operand : goal.decreases-operand
decreases-operand l = 12 * l.depth + 2 * rank l.level + 1

abbrev pub decreases-parentheses : goal.decreases-parentheses
decreases-parentheses l = 12 * l.depth + 9

abbrev pub decreases-unary : goal.decreases-unary
decreases-unary l = 12 * l.depth

abbrev pub decreases-within : goal.decreases-within
decreases-within l = 12 * l.depth + 10

abbrev pub invariant-chain-turns : goal.invariant-chain-turns
invariant-chain-turns l =
    more plain l.fn.steps (read (spec.chain (spec.operator l.level) (spec.operands l.level (spec.unary l.depth))) l.fn.cursor)
    ≡ more spec.joined l.steps (read (many (both (spec.operator l.level) (spec.operands l.level (spec.unary l.depth)))) l.cursor)

abbrev pub decreases-chain-turns : goal.decreases-chain-turns
decreases-chain-turns l = length l.cursor
