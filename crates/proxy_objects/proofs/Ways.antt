-- Ways from an object to the one that answers, before and after one more object was added.
use Rattle.std.proofs.Common.{◌≡◌, ℕ, zero, suc, ◌<◌, ◌≤◌, cond, nat_eq, [], Option, Some, None, sym, subst, ap, ◌∙◌, refl, arith, ◌⊎◌, inl, inr}
use Rattle.std.specs.Prelude.{IsSome}
use Rattle.std.proofs.lemmas.Bool.Decides.{eqb_tells}
use Rattle.std.proofs.lemmas.Option.{none-some, same_Some}
use Rattle.proxy_objects.specs.declared.forward.Forward.{Forward}
use Rattle.proxy_objects.specs.declared.forwards.TheConstants.{MOST_FORWARDERS}
use Rattle.proxy_objects.specs.Forwarding.{Forwarding, forward_of, HasDepth, IsShort}

-- an object that answers by itself has none before it
pub no-more : (known : Forwarding) (at : ℕ) → forward_of known at ≡ None → HasDepth known at 0
unfolding HasDepth
no-more known at is = is

-- one forwarder more before the rest of a way
pub one-more : (known : Forwarding) (at : ℕ) (forward : Forward) (count : ℕ) → forward_of known at ≡ Some forward
    → HasDepth known forward.target count → HasDepth known at (suc count)
unfolding HasDepth
one-more known at forward count is rest = (forward, is, rest)

-- an object has one depth
pub one_depth : (known : Forwarding) (at m n : ℕ) → HasDepth known at m → HasDepth known at n → m ≡ n
unfolding HasDepth
one_depth known at zero zero p q = refl
one_depth known at zero (suc n) p q = absurd (none-some q.0 (sym p ∙ q.1))
one_depth known at (suc m) zero p q = absurd (none-some p.0 (sym q ∙ p.1))
one_depth known at (suc m) (suc n) p q =
    let same : p.0 ≡ q.0 = same_Some p.0 q.0 (sym p.1 ∙ q.1) in
    ap suc (one_depth known q.0.target m n (subst (λ (w : Forward). HasDepth known w.target m) same p.2) q.2)

-- where two agree below an object, and the ways of the first go down, the ways from below it are
-- the same
same-way : (old new : Forwarding) (object : ℕ) → ((o : ℕ) → o < object → forward_of new o ≡ forward_of old o)
    → ((o : ℕ) (w : Forward) → forward_of old o ≡ Some w → w.target < o)
    → (count at : ℕ) → at < object → HasDepth new at count → HasDepth old at count
unfolding HasDepth
same-way old new object agree down zero at lt has = sym (agree at lt) ∙ has
same-way old new object agree down (suc count) at lt has =
    let is : forward_of old at ≡ Some has.0 = sym (agree at lt) ∙ has.1 in
    (has.0, is, same-way old new object agree down count has.0.target (omega (arith, lt, down at has.0 is)) has.2)

-- one more object was added, above all that were added before
module _ (old new : Forwarding) (object : ℕ) (forward : Forward) (short : IsShort old) (below : forward.target < object)
    (rising : (added : ℕ) → IsSome (forward_of old added) → added < object)
    (updated : (o : ℕ) → forward_of new o ≡ cond (nat_eq object o) (Some forward) (forward_of old o))
    (free : HasDepth old forward.target MOST_FORWARDERS → ⊥) where
  -- what an object hands its calls on to: it is the new one, or it was added before
  known-as : (o : ℕ) (w : Forward) → forward_of new o ≡ Some w → ((object ≡ o) × (forward ≡ w)) ⊎ ((o < object) × (forward_of old o ≡ Some w))
  known-as o w is =
      elim (eqb_tells object o) [
        | inl p ↦
            let new-is : forward_of new o ≡ Some forward = updated o ∙ ap (λ b. cond b (Some forward) (forward_of old o)) p.0 in
            inl (p.1, same_Some forward w (sym new-is ∙ is))
        | inr p ↦
            let stays : forward_of new o ≡ forward_of old o = updated o ∙ ap (λ b. cond b (Some forward) (forward_of old o)) p.0 in
            let was : forward_of old o ≡ Some w = sym stays ∙ is in
            inr (rising o (subst IsSome (sym was) refl), was)
      ]

  agree : (o : ℕ) → o < object → forward_of new o ≡ forward_of old o
  agree o lt =
      elim (eqb_tells object o) [
        | inl p ↦ absurd (omega (arith, lt, p.1))
        | inr p ↦ updated o ∙ ap (λ b. cond b (Some forward) (forward_of old o)) p.0
      ]

  below-after : (o : ℕ) (w : Forward) → forward_of new o ≡ Some w → w.target < o
  below-after o w is =
      elim (known-as o w is) [
        | inl p ↦ let same : forward.target ≡ w.target = ap (λ (v : Forward). v.target) p.1 in omega (arith, below, same, p.0)
        | inr p ↦ short.below o w p.1
      ]

  few-after : (o count : ℕ) → HasDepth new o count → count ≤ MOST_FORWARDERS
  unfolding HasDepth
  few-after o zero has = omega arith
  few-after o (suc count) has =
      elim (known-as o has.0 has.1) [
        | inl p ↦
            let rest : HasDepth new forward.target count = subst (λ (w : Forward). HasDepth new w.target count) (sym p.1) has.2 in
            let was : HasDepth old forward.target count = same-way old new object agree short.below count forward.target below rest in
            let other : count ≡ MOST_FORWARDERS → ⊥ = λ full. free (subst (HasDepth old forward.target) full was) in
            omega (arith, short.few forward.target count was, other)
        | inr p ↦ short.few o (suc count) (same-way old new object agree short.below (suc count) o p.0 has)
      ]

  pub short-after : IsShort new
  short-after = record { below = below-after; few = few-after }

-- where no object hands its calls on
pub nothing-is-short : IsShort []
unfolding HasDepth
nothing-is-short = record { below = λ object forward is. absurd (none-some forward is); few = none }
  where
    none : (object count : ℕ) → HasDepth [] object count → count ≤ MOST_FORWARDERS
    none object zero has = omega arith
    none object (suc count) has = absurd (none-some has.0 has.1)

-- an object above all that were added was not added
pub not-added : (known : Forwarding) (object : ℕ) → ((added : ℕ) → IsSome (forward_of known added) → added < object) → forward_of known object ≡ None
not-added known object rising = by (forward_of known object) refl
  where
    by : (found : Option Forward) → forward_of known object ≡ found → forward_of known object ≡ None
    by None is = is
    by (Some w) is = absurd (omega (arith, rising object (subst IsSome (sym is) refl)))
