use Rattle.std.proofs.Common.{◌≡◌, ◌<◌, ◌≤◌, ◌∙◌, ℕ, Bool, true, false, Result, Ok, Err, ap, refl, sym, subst, arith}
use Rattle.std.proofs.lemmas.Bool.{true≢false}
use Rattle.std.proofs.lemmas.Grind.{common_steps}
use Rattle.std.proofs.lemmas.Result.{err_from_is_err_and}
use Rattle.proxy_objects.specs.declared.errors.ForwardError.{ForwardError}
use Rattle.proxy_objects.specs.declared.errors.ForwardError.TheVariants.{Depth, Memory}
use Rattle.proxy_objects.specs.declared.forwards.TheConstants.{MOST_FORWARDERS}
use Rattle.proxy_objects.specs.Forwarding.{HasDepth}
use Rattle.proxy_objects.proofs.Ways.{one_depth}
use Rattle.script_objects.specs.Known.{ObjectsView}
use Rattle.script_objects.proofs.Depths.{is-full, unless-full}
use Rattle.script_objects.proofs.objects.Objects.add_forwarder.Goals as goal

-- whether an answer is that there are too many forwarders
abbrev is_deep : Result ℕ ForwardError → Bool
is_deep (Ok number) = false
is_deep (Err Depth) = true
is_deep (Err Memory) = false

pub returns-then-depth-ge-MOST_FORWARDERS-clause-depth :
    goal.returns-then-depth-ge-MOST_FORWARDERS-clause-depth
returns-then-depth-ge-MOST_FORWARDERS-clause-depth c =
    let view = c.args.self.now in
    let has = subst (λ (v : ObjectsView). HasDepth v.forwards c.args.target c.depth.result) c.self.view_is c.depth.ensures.count in
    let full : MOST_FORWARDERS ≤ c.depth.result = grind (arith, common_steps, c.if-depth-ge-MOST_FORWARDERS.true) in
    λ conv state lawful known b found.
    (λ _. is-full conv view state lawful known conv c.args.target b found c.depth.result has full, λ _. refl)

pub returns-in_err-push-clause-depth : goal.returns-in_err-push-clause-depth
returns-in_err-push-clause-depth c =
    let view = c.args.self.now in
    let has = subst (λ (v : ObjectsView). HasDepth v.forwards c.args.target c.depth.result) c.self.view_is c.depth.ensures.count in
    let less : c.depth.result < MOST_FORWARDERS = grind (arith, common_steps, c.if-depth-ge-MOST_FORWARDERS.false) in
    let p = err_from_is_err_and c.from_residual.result c.from_residual.ensures.1 in
    λ conv state lawful known b found.
    unless-full conv view state lawful known conv c.args.target b found c.depth.result has less
    (λ deep. true≢false (sym (ap is_deep deep) ∙ ap is_deep (p.1 ∙ ap Err p.2)))

pub returns-in-Err-clause-depth : goal.returns-in-Err-clause-depth
returns-in-Err-clause-depth c =
    let view = c.args.self.now in
    let has = subst (λ (v : ObjectsView). HasDepth v.forwards c.args.target c.depth.result) c.self.view_is c.depth.ensures.count in
    let less : c.depth.result < MOST_FORWARDERS = grind (arith, common_steps, c.if-depth-ge-MOST_FORWARDERS.false) in
    λ conv state lawful known b found.
    unless-full conv view state lawful known conv c.args.target b found c.depth.result has less
    (λ deep.
    omega (
      arith,
      less,
      one_depth c.self.inside.forwards c.args.target c.depth.result MOST_FORWARDERS c.depth.ensures.count
          (c.in-Err.ensures.depth.0 (not_memory c.in-Err.error deep)),
    ))
  where
    not_memory : (e : ForwardError) → ◌≡◌ {A = Result ℕ ForwardError} (Err e) (Err Depth) → ◌≡◌ {A = Result (Unit {0}) ForwardError} (Err e) (Err Depth)
    not_memory Depth is = refl
    not_memory Memory is = absurd (true≢false (sym (ap is_deep is)))

pub returns-clause-depth : goal.returns-clause-depth
returns-clause-depth c =
    let view = c.args.self.now in
    let has = subst (λ (v : ObjectsView). HasDepth v.forwards c.args.target c.depth.result) c.self.view_is c.depth.ensures.count in
    let less : c.depth.result < MOST_FORWARDERS = grind (arith, common_steps, c.if-depth-ge-MOST_FORWARDERS.false) in
    λ conv state lawful known b found.
    unless-full conv view state lawful known conv c.args.target b found c.depth.result has less
    (λ deep. true≢false (sym (ap is_deep deep)))
