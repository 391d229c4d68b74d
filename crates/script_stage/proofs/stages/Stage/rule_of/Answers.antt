use Rattle.std.proofs.Common.{◌≡◌, Some, ap, sym, subst, ◌∙◌}
use Rattle.std.proofs.lemmas.List.{take_all}
use Rattle.script_meaning.specs.Refusing.{each_of}
use Rattle.script_meaning.specs.Words.{item_of}
use Rattle.script_stage.proofs.Each.{each-more, each-stops}
use Rattle.script_stage.proofs.stages.Stage.rule_of.Goals as goal

pub returns-in_default : goal.returns-in_default
returns-in_default c = λ state stands.
    sym (each-stops (item_of state) c.args.items.now c.loop-item.item-index _ c.loop-item-test.true (sym c.item-item.is)
    (sym (c.in_ok-item.ensures state stands) ∙ c.in_default.is))

pub loop-item-preserved : goal.loop-item-preserved
loop-item-preserved c = λ state stands.
    each-more (item_of state) c.args.items.now c.loop-item.item-index _ c.loop-item.rule _ c.loop-item-test.true
    (sym c.item-item.is) (c.loop-item.invariant state stands)
    (sym (c.in_ok-item.ensures state stands) ∙ c.in-Some.is)
    ∙ ap Some (sym c.in_ok-push.ensures.ok)

pub returns : goal.returns
returns c = λ state stands.
    sym (subst (λ l. each_of (item_of state) l ≡ Some c.loop-item.rule)
    (take_all c.loop-item.item-index c.args.items.now c.loop-item-test.false)
    (c.loop-item.invariant state stands))
