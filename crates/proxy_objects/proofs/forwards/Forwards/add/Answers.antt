use Rattle.std.proofs.Common.{◌≡◌, ℕ, ◌<◌, Bool, true, false, Result, None, Ok, Err, sym, subst, ap, ◌∙◌}
use Rattle.std.specs.Prelude.{IsSome}
use Rattle.std.proofs.lemmas.Bool.{true≢false}
use Rattle.std.proofs.lemmas.Result.{err_from_is_err_and}
use Rattle.indexmap.proofs.CallerLemmas.{insert_entry-new}
use Rattle.proxy_objects.specs.declared.errors.ForwardError.{ForwardError}
use Rattle.proxy_objects.specs.declared.errors.ForwardError.TheVariants.{Depth, Memory}
use Rattle.proxy_objects.specs.declared.forwards.TheConstants.{MOST_FORWARDERS}
use Rattle.proxy_objects.specs.Forwarding.{Forwarding, HasDepth, forward_of}
use Rattle.proxy_objects.proofs.Ways.{not-added, short-after}
use Rattle.proxy_objects.proofs.forwards.Forwards.add.Goals as goal

-- whether an answer is that there are too many forwarders
abbrev is_deep : Result (Unit {0}) ForwardError → Bool
is_deep (Ok tt) = false
is_deep (Err Depth) = true
is_deep (Err Memory) = false

pub invariant_of-self-2 : goal.invariant_of-self-2
invariant_of-self-2 c =
    let known : Forwarding = c.self.inside.by_object.entries in
    let rising : (added : ℕ) → IsSome (forward_of known added) → added < c.args.object = subst (λ (k : Forwarding). (added : ℕ) → IsSome (forward_of k added) → added < c.args.object) (sym c.self.view_is) c.requires.rising in
    let free : HasDepth known c.args.target MOST_FORWARDERS → ⊥
    = λ has. true≢false (sym (c.is_full.ensures.1 (subst (λ (k : Forwarding). HasDepth k c.args.target MOST_FORWARDERS) c.self.view_is has)) ∙ c.if-is_full.false) in
    short-after known c.insert.new.self.entries c.args.object (record { target = c.args.target; conv = c.args.conv }) c.self.invariant c.requires.below
    rising c.in_ok-insert.ensures.updates.0 free

pub returns-in_err-insert-clause-depth : goal.returns-in_err-insert-clause-depth
returns-in_err-insert-clause-depth c =
    let p = err_from_is_err_and c.from_residual.result c.from_residual.ensures.1 in (
      λ deep. absurd (true≢false (sym (ap is_deep deep) ∙ ap is_deep (p.1 ∙ ap Err p.2))),
      λ has. absurd (true≢false (sym (c.is_full.ensures.1 has) ∙ c.if-is_full.false)),
    )

pub returns-clause-added : goal.returns-clause-added
returns-clause-added c =
    let known : Forwarding = c.self.inside.by_object.entries in
    let rising : (added : ℕ) → IsSome (forward_of known added) → added < c.args.object = subst (λ (k : Forwarding). (added : ℕ) → IsSome (forward_of k added) → added < c.args.object) (sym c.self.view_is) c.requires.rising in
    let new : forward_of known c.args.object ≡ None = not-added known c.args.object rising in
    rw (← c.self.view_is) (c.in_ok-insert.ensures.entries ∙ insert_entry-new _ c.self.inside.by_object c.args.object _ new)

pub returns-clause-depth : goal.returns-clause-depth
returns-clause-depth c = (
  λ deep. absurd (true≢false (sym (ap is_deep deep))),
  λ has. absurd (true≢false (sym (c.is_full.ensures.1 has) ∙ c.if-is_full.false)),
)
