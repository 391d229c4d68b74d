use Rattle.std.proofs.Common.{◌≡◌, ◌+◌, ◌∙◌, ◌∷◌, drop, Err, IfErr, arith, sym, ap, subst}
use Rattle.std.proofs.lemmas.Result.{err_from_is_err_and}
use Rattle.include_closure.specs.Closure.{IsFirstFault, IsGiven}
use Rattle.include_closure.proofs.ClosureLaws.{drop-next, drop-none, first-fault, given-error, given-list, next-root, one-closure, whole-closure}
use Rattle.include_closure.proofs.closures.closure.Goals as goal

pub returns-in_err-visit-clause-err : goal.returns-in_err-visit-clause-err
returns-in_err-visit-clause-err g c told t =
    let inv = c.roots.invariant in
    let k = c.roots.root-index in
    let roots = c.args.roots.now in
    let p = err_from_is_err_and c.from_residual.result c.from_residual.ensures.1 in
    let next = drop-next c.as_slice-root-items.result.now k c.root-item.result c.roots-test.true c.root-item.is in
    let left = subst (λ xs. drop k xs ≡ c.root-item.result ∷ drop (k + 1) xs) c.as_slice-root-items.ensures next in
    let named = subst (λ n. drop k roots ≡ n ∷ drop (k + 1) roots) (sym c.as_slice.ensures) left in
    subst (λ r. IfErr r (IsFirstFault told roots)) (sym (p.1 ∙ ap (λ e. Err e) p.2))
    (first-fault told roots (drop k roots) (drop (k + 1) roots) c.as_slice.result.now c.roots.visited c.in_err-visit.field-0.0 named (inv.leads_back told t)
    (c.in_err-visit.ensures.err told (inv.same_files ∙ t)))

pub returns-in_err-visit-clause-one : goal.returns-in_err-visit-clause-one
returns-in_err-visit-clause-one g c told = one-closure told c.args.roots.now

pub returns-in_err-visit-clause-given : goal.returns-in_err-visit-clause-given
returns-in_err-visit-clause-given g c told t =
    let inv = c.roots.invariant in
    let k = c.roots.root-index in
    let roots = c.args.roots.now in
    let p = err_from_is_err_and c.from_residual.result c.from_residual.ensures.1 in
    let next = drop-next c.as_slice-root-items.result.now k c.root-item.result c.roots-test.true c.root-item.is in
    let left = subst (λ xs. drop k xs ≡ c.root-item.result ∷ drop (k + 1) xs) c.as_slice-root-items.ensures next in
    let named = subst (λ n. drop k roots ≡ n ∷ drop (k + 1) roots) (sym c.as_slice.ensures) left in
    subst (IsGiven told roots) (sym (p.1 ∙ ap (λ e. Err e) p.2))
    (given-error told roots c.in_err-visit.field-0.0
    (first-fault told roots (drop k roots) (drop (k + 1) roots) c.as_slice.result.now c.roots.visited c.in_err-visit.field-0.0 named (inv.leads_back told t)
    (c.in_err-visit.ensures.err told (inv.same_files ∙ t))))

pub roots-preserved : goal.roots-preserved
roots-preserved g c =
    let inv = c.roots.invariant in
    let k = c.roots.root-index in
    let roots = c.args.roots.now in
    let next = drop-next c.as_slice-root-items.result.now k c.root-item.result c.roots-test.true c.root-item.is in
    let left = subst (λ xs. drop k xs ≡ c.root-item.result ∷ drop (k + 1) xs) c.as_slice-root-items.ensures next in
    let named = subst (λ n. drop k roots ≡ n ∷ drop (k + 1) roots) (sym c.as_slice.ensures) left in
    record {
      same_files = c.in_ok-visit.ensures.same_files ∙ inv.same_files;
      same_faults = c.in_ok-visit.ensures.cause ∙ inv.same_faults;
      leads_back = λ told t. next-root told roots (drop k roots) (drop (k + 1) roots) c.as_slice.result.now c.roots.visited c.visit.new.visited named
          (inv.leads_back told t) (c.in_ok-visit.ensures.ok told (inv.same_files ∙ t));
      room = c.in_ok-visit.ensures.room;
      few_files = omega (arith, inv.few_files, c.in_ok-visit.ensures.few_files);
      few_items = omega (arith, inv.few_items, c.in_ok-visit.ensures.few_items);
      lawful = c.in_ok-visit.ensures.lawful inv.lawful;
    }

pub returns-clause-ok : goal.returns-clause-ok
returns-clause-ok g c told t =
    let past = drop-none c.as_slice-root-items.result.now c.roots.root-index c.roots-test.false in
    whole-closure told c.args.roots.now (drop c.roots.root-index c.args.roots.now) c.roots.visited
    (ap (drop c.roots.root-index) (sym c.as_slice-root-items.ensures) ∙ past) (c.roots.invariant.leads_back told t)

pub returns-clause-one : goal.returns-clause-one
returns-clause-one g c told = one-closure told c.args.roots.now

pub returns-clause-given : goal.returns-clause-given
returns-clause-given g c told t =
    let past = drop-none c.as_slice-root-items.result.now c.roots.root-index c.roots-test.false in
    given-list told c.args.roots.now c.roots.visited.closed
    (whole-closure told c.args.roots.now (drop c.roots.root-index c.args.roots.now) c.roots.visited
    (ap (drop c.roots.root-index) (sym c.as_slice-root-items.ensures) ∙ past) (c.roots.invariant.leads_back told t))
