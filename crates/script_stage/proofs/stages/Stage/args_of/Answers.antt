use Rattle.std.proofs.Common.{◌≡◌, Some, ap, sym, subst, ◌∙◌}
use Rattle.std.proofs.lemmas.List.{take_all}
use Rattle.script_meaning.specs.Refusing.{each_of}
use Rattle.script_meaning.specs.Words.{arg_of}
use Rattle.script_stage.proofs.Each.{each-more, each-stops}
use Rattle.script_stage.proofs.stages.Stage.args_of.Goals as goal

pub returns-in_default : goal.returns-in_default
returns-in_default c = λ state stands.
    sym (each-stops (arg_of state) c.args.args.now c.loop-word.word-index _ c.loop-word-test.true (sym c.word-item.is)
    (sym (c.arg_of.ensures state stands) ∙ c.in_default.is))

pub loop-word-preserved : goal.loop-word-preserved
loop-word-preserved c = λ state stands.
    each-more (arg_of state) c.args.args.now c.loop-word.word-index _ c.loop-word.found _ c.loop-word-test.true
    (sym c.word-item.is) (c.loop-word.invariant state stands)
    (sym (c.arg_of.ensures state stands) ∙ c.in-Some.is)
    ∙ ap Some (sym c.in_ok-push.ensures.ok)

pub returns : goal.returns
returns c = λ state stands.
    sym (subst (λ l. each_of (arg_of state) l ≡ Some c.loop-word.found)
    (take_all c.loop-word.word-index c.args.args.now c.loop-word-test.false)
    (c.loop-word.invariant state stands))
