use Rattle.std.proofs.Common.{◌∙◌, sym}
use Rattle.std.proofs.lemmas.Result.{err_from_is_err_and}
use Rattle.script_chains.proofs.Passed.{failed, resumes-more, saw-first, saw-none-yet, stays}
use Rattle.script_chains.proofs.passing.pass_on.Goals as goal

pub returns-in_err-look : goal.returns-in_err-look
returns-in_err-look g c = λ blocks b values at.
    let so_far = c.way.invariant blocks b values at in
    let p = err_from_is_err_and c.from_residual.result c.from_residual.ensures.1 in
    failed _ c.from_residual.result p.0 p.1 (so_far.fails _ (saw-none-yet _ _ _ c.in_err-look.ensures.err))

pub returns-in_default : goal.returns-in_default
returns-in_default g c = λ blocks b values at.
    let so_far = c.way.invariant blocks b values at in
    so_far.ends _ _ _ _
    (stays c.way.machine c.args.objects.now c.args.method.now c.way.visit blocks so_far.stop values so_far.at
    (sym c.forward.ensures.kept ∙ c.in_default.is) c.way.text _ _ c.in_ok-look.ensures.saw)

pub hand_on-requires-clause-at : goal.hand_on-requires-clause-at
hand_on-requires-clause-at g c =
    let so_far = c.way.invariant c.requires.at.0 c.requires.at.1.0 c.requires.at.1.1.0 c.requires.at.1.1.1 in
    (c.requires.at.0, (so_far.stop, (c.requires.at.1.1.0, so_far.at)))

pub returns-in_err-visit : goal.returns-in_err-visit
returns-in_err-visit g c = λ blocks b values at.
    let so_far = c.way.invariant blocks b values at in
    let p = err_from_is_err_and c.from_residual-in_err-visit.result c.from_residual-in_err-visit.ensures.1 in
    failed _ c.from_residual-in_err-visit.result p.0 p.1 (so_far.fails _ (saw-first _ _ _ _ c.in_ok-look.ensures.saw))

pub way-preserved : goal.way-preserved
way-preserved g c = λ blocks b values at.
    let so_far = c.way.invariant blocks b values at in
    resumes-more c.args.machine.now c.way.machine c.hand_on.new.machine c.args.objects.now c.args.method.now
    c.args.visit c.way.visit c.in_ok-visit.visit blocks b values c.args.text.now c.way.text c.hand_on.new.text _ _ _
    so_far c.in_ok-look.ensures.saw (c.in_ok-visit.ensures.handed blocks so_far.stop values so_far.at)
