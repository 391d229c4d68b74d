use Rattle.std.proofs.Common.{◌≡◌, ◌≢◌, ◌∙◌, sym, Err, arith}
use Rattle.std.proofs.lemmas.Grind.{common_steps}
use Rattle.idl_grammar.specs.declared.cursor.Stop.TheVariants as stop
use Rattle.idl_grammar.specs.Grammar.{chain, operator, operands, unary, unions, negation, parentheses}
use Rattle.idl_grammar.specs.Read.{read}
use Rattle.idl_grammar.specs.Gives.{more, plain}
use Rattle.idl_grammar.proofs.Chains.{chain-turn, chain-end, chain-smaller, chain-err-operator, chain-err-operand, negation-ok, negation-err, negation-none, parentheses-ok, parentheses-open, parentheses-err, parentheses-none}
use Rattle.idl_grammar.proofs.Levels.{level-repeats}
use Rattle.idl_grammar.proofs.Predictive.{operator-filled}
use Rattle.idl_grammar.proofs.expressions.+expression.Goals as goal

pub chain-returns-in_err-sign : goal.chain-returns-in_err-sign
chain-returns-in_err-sign t c =
    let h : c.in_err-sign.field-0.0 ≢ stop.Memory
    → more plain c.args.steps.now (read (chain (operator c.args.level) (operands c.args.level (unary c.args.depth))) c.args.cursor.now) ≡ Err c.operator.new.cursor =
    λ n. c.turns.invariant
    ∙ chain-err-operator (operator c.args.level) (operands c.args.level (unary c.args.depth)) (operator-filled c.args.level) c.turns.steps c.turns.cursor _
    (sym c.sees_operator.ensures ∙ c.turns-test.true) (c.in_err-sign.ensures n) in
    grind (arith, common_steps, h)

pub chain-returns-in_err-operand-2 : goal.chain-returns-in_err-operand-2
chain-returns-in_err-operand-2 t c =
    let h : c.in_err-operand-2.field-0.0 ≢ stop.Memory
    → more plain c.args.steps.now (read (chain (operator c.args.level) (operands c.args.level (unary c.args.depth))) c.args.cursor.now) ≡ Err c.operand-in-turns.new.cursor =
    λ n. c.turns.invariant
    ∙ chain-err-operand (operator c.args.level) (operands c.args.level (unary c.args.depth)) (operator-filled c.args.level) c.turns.steps c.turns.cursor _ _ _
    (sym c.sees_operator.ensures ∙ c.turns-test.true) c.in_ok-sign.ensures (c.in_err-operand-2.ensures n) in
    grind (arith, common_steps, h)

pub chain-turns-smaller : goal.chain-turns-smaller
chain-turns-smaller t c =
    chain-smaller (operator c.args.level) (operands c.args.level (unary c.args.depth)) (level-repeats c.args.level c.args.depth) c.turns.steps _ c.turns.cursor _ _ _
    c.in_ok-sign.ensures c.in_ok-operand-2.ensures

pub chain-turns-preserved : goal.chain-turns-preserved
chain-turns-preserved t c =
    c.turns.invariant
    ∙ chain-turn (operator c.args.level) (operands c.args.level (unary c.args.depth)) (level-repeats c.args.level c.args.depth) (operator-filled c.args.level)
    c.turns.steps _ _ c.turns.cursor _ _ _ (sym c.sees_operator.ensures ∙ c.turns-test.true) c.in_ok-sign.ensures c.in_ok-operand-2.ensures c.in_ok-push.ensures.ok

pub chain-returns : goal.chain-returns
chain-returns t c =
    c.turns.invariant
    ∙ chain-end (operator c.args.level) (operands c.args.level (unary c.args.depth)) (operator-filled c.args.level) c.turns.steps c.turns.cursor
    (sym c.sees_operator.ensures ∙ c.turns-test.false)

pub negation-returns-in_err-take_mark : goal.negation-returns-in_err-take_mark
negation-returns-in_err-take_mark t c =
    let h : c.in_err-take_mark.field-0.0 ≢ stop.Memory → more plain c.args.steps.now (read (negation (unary c.args.depth)) c.args.cursor.now) ≡ Err c.take_mark.new.self =
    λ n. negation-none c.args.steps.now (unary c.args.depth) c.args.cursor.now _ (c.in_err-take_mark.ensures n) in
    grind (arith, common_steps, h)

pub negation-returns-in_err-unary : goal.negation-returns-in_err-unary
negation-returns-in_err-unary t c =
    let h : c.in_err-unary.field-0.0 ≢ stop.Memory → more plain c.args.steps.now (read (negation (unary c.args.depth)) c.args.cursor.now) ≡ Err c.unary.new.cursor =
    λ n. negation-err c.args.steps.now (unary c.args.depth) c.args.cursor.now _ _ _ c.in_ok-take_mark.ensures (c.in_err-unary.ensures n) in
    grind (arith, common_steps, h)

pub negation-returns : goal.negation-returns
negation-returns t c =
    negation-ok c.args.steps.now _ _ (unary c.args.depth) c.args.cursor.now _ _ _ c.in_ok-take_mark.ensures c.in_ok-unary.ensures c.in_ok-push.ensures.ok

pub parentheses-returns-in_err-take_mark : goal.parentheses-returns-in_err-take_mark
parentheses-returns-in_err-take_mark t c =
    let h : c.in_err-take_mark.field-0.0 ≢ stop.Memory → more plain c.args.steps.now (read (parentheses (unary c.args.depth)) c.args.cursor.now) ≡ Err c.take_mark.new.self =
    λ n. parentheses-none c.args.steps.now (unary c.args.depth) c.args.cursor.now _ (c.in_err-take_mark.ensures n) in
    grind (arith, common_steps, h)

pub parentheses-returns-in_err-chain : goal.parentheses-returns-in_err-chain
unfolding unions
parentheses-returns-in_err-chain t c =
    let h : c.in_err-chain.field-0.0 ≢ stop.Memory → more plain c.args.steps.now (read (parentheses (unary c.args.depth)) c.args.cursor.now) ≡ Err c.chain.new.cursor =
    λ n. parentheses-err c.args.steps.now (unary c.args.depth) c.args.cursor.now _ _ _ c.in_ok-take_mark.ensures (c.in_err-chain.ensures n) in
    grind (arith, common_steps, h)

pub parentheses-returns-in_err-take_mark-2 : goal.parentheses-returns-in_err-take_mark-2
unfolding unions
parentheses-returns-in_err-take_mark-2 t c =
    let h : c.in_err-take_mark-2.field-0.0 ≢ stop.Memory → more plain c.args.steps.now (read (parentheses (unary c.args.depth)) c.args.cursor.now) ≡ Err c.take_mark-2.new.self =
    λ n. parentheses-open c.args.steps.now _ (unary c.args.depth) c.args.cursor.now _ _ _ _ c.in_ok-take_mark.ensures c.in_ok-chain.ensures (c.in_err-take_mark-2.ensures n) in
    grind (arith, common_steps, h)

pub parentheses-returns : goal.parentheses-returns
unfolding unions
parentheses-returns t c =
    parentheses-ok c.args.steps.now _ (unary c.args.depth) c.args.cursor.now _ _ _ _ _ c.in_ok-take_mark.ensures c.in_ok-chain.ensures c.in_ok-take_mark-2.ensures
