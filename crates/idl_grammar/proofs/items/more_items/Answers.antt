use Rattle.std.proofs.Common.{◌≡◌, ◌≢◌, ◌∙◌, sym, ap, Err, arith}
use Rattle.std.proofs.lemmas.Grind.{common_steps}
use Rattle.idl_grammar.specs.declared.cursor.Stop.TheVariants as stop
use Rattle.idl_grammar.specs.Grammar.{one_item, items}
use Rattle.idl_grammar.specs.Read.{next_in, read}
use Rattle.idl_grammar.specs.Gives.{more, plain}
use Rattle.idl_grammar.proofs.Sound.{shrinks}
use Rattle.idl_grammar.proofs.Loops.{list-turn, list-end, list-err}
use Rattle.idl_grammar.proofs.Predictive.{item-repeats}
use Rattle.idl_grammar.proofs.Starts.{item_starts}
use Rattle.idl_grammar.proofs.items.more_items.Goals as goal

pub returns-in_err-one : goal.returns-in_err-one
returns-in_err-one c =
    let h : c.in_err-one.field-0.0 ≢ stop.Memory → more plain c.args.found.now (read items c.args.cursor.now) ≡ Err c.one_item.new.cursor =
    λ n. c.turns.invariant
    ∙ list-err one_item c.turns.found c.turns.cursor _ (ap (λ ks. next_in ks c.turns.cursor) item_starts ∙ sym c.sees_any.ensures ∙ c.turns-test.true) (c.in_err-one.ensures n) in
    grind (arith, common_steps, h)

pub turns-smaller : goal.turns-smaller
turns-smaller c = shrinks one_item item-repeats.predictive item-repeats.filled _ _ _ c.in_ok-one.ensures

pub turns-preserved : goal.turns-preserved
turns-preserved c =
    c.turns.invariant
    ∙ list-turn one_item item-repeats c.turns.found _ c.turns.cursor _ _ (ap (λ ks. next_in ks c.turns.cursor) item_starts ∙ sym c.sees_any.ensures ∙ c.turns-test.true)
    c.in_ok-one.ensures c.in_ok-push.ensures.ok

pub returns : goal.returns
returns c =
    c.turns.invariant
    ∙ list-end one_item c.turns.found c.turns.cursor (ap (λ ks. next_in ks c.turns.cursor) item_starts ∙ sym c.sees_any.ensures ∙ c.turns-test.false)
