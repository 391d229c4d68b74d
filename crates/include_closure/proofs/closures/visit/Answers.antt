use Rattle.std.proofs.Common.{◌≡◌, ◌∙◌, ◌∷◌, [], Err, IfErr, refl, sym, ap, subst}
use Rattle.std.proofs.lemmas.Result.{err_from_is_err_and}
use Rattle.include_closure.specs.Closure.{StopsWith}
use Rattle.include_closure.specs.Steps.{on_top}
use Rattle.include_closure.specs.declared.visited.Visited.{Visited}
use Rattle.include_closure.proofs.CountLaws.{Counts, ended-counts, followed-counts, started-counts}
use Rattle.include_closure.proofs.Rests.{Rest}
use Rattle.include_closure.proofs.StepLaws.{ended, followed, started, stops-item, stops-root}
use Rattle.include_closure.proofs.closures.visit.Goals as goal

pub returns-in_err-opened-clause-err : goal.returns-in_err-opened-clause-err
returns-in_err-opened-clause-err g c told t =
    let p = err_from_is_err_and c.from_residual.result c.from_residual.ensures.1 in
    subst (λ r. IfErr r (StopsWith told (c.args.name.now ∷ []) c.args.visited.now)) (sym (p.1 ∙ ap (λ e. Err e) p.2))
    (stops-root told c.args.visited.now c.args.name.now c.in_err-opened.field-0.0 (c.in_err-opened.ensures.err told t))

pub turns-init : goal.turns-init
turns-init g c =
    let top = c.in_ok-push_opened.ensures ∙ ap (on_top c.in_ok-opened.opened) c.new-open_files.ensures.items in
    let old = c.args.visited.now in
    let new = c.open.new.visited in
    record {
      same_files = c.in_ok-opened.ensures.same_files;
      same_faults = c.in_ok-opened.ensures.cause;
      leads_back = λ told t o rest.
          started told old new c.args.name.now c.in_ok-opened.opened o (c.in_ok-opened.ensures.ok told t) (subst (λ fs. Rest told fs new o) top rest);
      counts = subst (λ fs. Counts old fs new) (sym top) (started-counts old new c.in_ok-opened.opened c.in_ok-opened.ensures.room c.in_ok-opened.ensures.opened);
    }

pub turns-preserved-in_default-get : goal.turns-preserved-in_default-get
turns-preserved-in_default-get g c =
    let inv = c.turns.invariant in
    let f = c.in-Some.frame in
    let fs = c.pop_front.new.self.items in
    let v = c.turns.visited in
    let popped = c.in-Some.ensures.items in
    let past = c.in_default-get.ensures.value in
    let closed = c.in_ok-push.ensures.ok in
    let new : Visited = record v { closed = c.push.new.self } in
    record {
      same_files = inv.same_files;
      same_faults = inv.same_faults;
      leads_back = λ told t o rest. inv.leads_back told t o (subst (λ frames. Rest told frames v o) (sym popped)
          (ended told fs f v o past (subst (λ list. Rest told fs (record v { closed = list }) o) closed rest)));
      counts = ended-counts c.args.visited.now v fs f new past refl closed (subst (λ frames. Counts c.args.visited.now frames v) popped inv.counts);
    }

pub returns-in_err-opened-2-clause-err : goal.returns-in_err-opened-2-clause-err
returns-in_err-opened-2-clause-err g c told t =
    let inv = c.turns.invariant in
    let p = err_from_is_err_and c.from_residual-in_err-opened-2.result c.from_residual-in_err-opened-2.ensures.1 in
    let popped = c.in-Some.ensures.items in
    subst (λ r. IfErr r (StopsWith told (c.args.name.now ∷ []) c.args.visited.now)) (sym (p.1 ∙ ap (λ e. Err e) p.2))
    (stops-item told c.pop_front.new.self.items c.in-Some.frame c.in-Some-get.item.now c.turns.visited (c.args.name.now ∷ []) c.args.visited.now c.in_err-opened-2.field-0.0
    c.in-Some-get.ensures.value (λ o rest. inv.leads_back told t o (subst (λ frames. Rest told frames c.turns.visited o) (sym popped) rest))
    (c.in_err-opened-2.ensures.err told (inv.same_files ∙ t)))

pub turns-preserved : goal.turns-preserved
turns-preserved g c =
    let inv = c.turns.invariant in
    let f = c.in-Some.frame in
    let fs = c.pop_front.new.self.items in
    let v = c.turns.visited in
    let new = c.follow.new.visited in
    let i = c.in-Some-get.item.now in
    let opened = c.in_ok-opened-2.opened in
    let at = c.in-Some-get.ensures.value in
    let popped = c.in-Some.ensures.items in
    let top = c.in_ok-push_opened-2.ensures ∙ ap (on_top opened) c.in_ok-put_back.ensures in
    record {
      same_files = c.in_ok-opened-2.ensures.same_files ∙ inv.same_files;
      same_faults = c.in_ok-opened-2.ensures.cause ∙ inv.same_faults;
      leads_back = λ told t o rest. inv.leads_back told t o (subst (λ frames. Rest told frames v o) (sym popped)
          (followed told fs f i v new opened o at (c.in_ok-opened-2.ensures.ok told (inv.same_files ∙ t)) (subst (λ frames. Rest told frames new o) top rest)));
      counts = subst (λ frames. Counts c.args.visited.now frames new) (sym top)
          (followed-counts c.args.visited.now v new fs f i opened at c.in_ok-opened-2.ensures.room c.in_ok-opened-2.ensures.opened
          (subst (λ frames. Counts c.args.visited.now frames v) popped inv.counts));
    }
