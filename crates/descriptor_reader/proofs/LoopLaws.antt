-- Loops that look for one of several parts, which have no fault, by the value that stands there.
use Rattle.std.proofs.Common.{◌≡◌, ℕ, ◌+◌, ◌<◌, ◌≤◌, Option, Some, None, Bool, true, false, ap, arith, subst, sym, ◌∙◌}
use Rattle.std.specs.List.{list_any, position}
use Rattle.std.specs.Prelude.{All, slice_get}
use borrow.Author.Count.{below_more}
use Rattle.typelib_faults.specs.declared.cursor.Cursor.{Cursor}
use Rattle.typelib_faults.specs.declared.faults.BadTypelib.{BadTypelib}
use Rattle.typelib_faults.specs.Walk.{reach, values}
use Rattle.typelib_faults.proofs.WalkFacts.{place_reached, value_reached}
use Rattle.typelib_check.proofs.StepLaws.{IsAt, step_on}
use Rattle.descriptor_reader.proofs.ViewLaws.{all_pass, any_passes, first_found, none_found, none_passes, one_fails}

-- each step goes to the end of the value that stands there
abbrev pub GoTo : (Cursor → Cursor) → (ℕ → ℕ) → Type 0
GoTo next end = (c : Cursor) → (next c).place ≡ end c.place

-- the value of this number, where the loop has taken as many steps
pub value_here : {A : Type 0} {f : Cursor → Option BadTypelib} {next : Cursor → Cursor} {from : Cursor} {n : ℕ} {at : Cursor} {i : ℕ} (value : ℕ → A) (end : ℕ → ℕ) → GoTo next end → IsAt f next from n at i → (k : ℕ) → k ≡ i → k < n → Some (value at.place) ≡ slice_get (values value end from.place n) k
value_here {A} {f} {next} {from} {n} {at} {i} value end steps is k same low =
    value_reached next value end steps from n k at low (is.reached ∙ ap (reach next from) (sym same))

-- the loop is at a part, and each value before has passed
pub record IsPast {A : Type 0} (P : A → Type 0) (value : ℕ → A) (end : ℕ → ℕ) (f : Cursor → Option BadTypelib) (next : Cursor → Cursor) (from : Cursor) (n : ℕ) (at : Cursor) (i : ℕ) : Type 0 where
  pub is : IsAt f next from n at i
  pub passed : (j : ℕ) → j < i → P (value (reach end from.place j))

place_here : {A : Type 0} {P : A → Type 0} {value : ℕ → A} {end : ℕ → ℕ} {f : Cursor → Option BadTypelib} {next : Cursor → Cursor} {from : Cursor} {n : ℕ} {at : Cursor} {i : ℕ} → GoTo next end → IsPast P value end f next from n at i → at.place ≡ reach end from.place i
place_here {end = end} {next = next} {from = from} {at = at} {i = i} steps past =
    place_reached next end steps from i at past.is.reached

pub past_on : {A : Type 0} {P : A → Type 0} {value : ℕ → A} {end : ℕ → ℕ} {f : Cursor → Option BadTypelib} {next : Cursor → Cursor} {from : Cursor} {n : ℕ} {at : Cursor} {i : ℕ} (then : Cursor) → GoTo next end → IsPast P value end f next from n at i → P (value at.place) → then ≡ next at → IsPast P value end f next from n then (i + 1)
past_on {P = P} {value = value} {end = end} {from = from} {i = i} then steps past here there = record {
  is = step_on then past.is there;
  passed = below_more (λ (j : ℕ). P (value (reach end from.place j))) i past.passed (subst (λ (p : ℕ). P (value p)) (place_here steps past) here);
}

-- all have passed, or one does not
pub all_past : {A : Type 0} {P : A → Type 0} {value : ℕ → A} {end : ℕ → ℕ} {f : Cursor → Option BadTypelib} {next : Cursor → Cursor} {from : Cursor} {n : ℕ} {at : Cursor} {i : ℕ} → IsPast P value end f next from n at i → n ≤ i → All P (values value end from.place n)
all_past {P = P} {value = value} {end = end} {from = from} {n = n} past over =
    all_pass P value end from.place n (λ j low. past.passed j (omega (arith, low, over)))

pub not_past : {A : Type 0} {P : A → Type 0} {value : ℕ → A} {end : ℕ → ℕ} {f : Cursor → Option BadTypelib} {next : Cursor → Cursor} {from : Cursor} {n : ℕ} {at : Cursor} {i : ℕ} → GoTo next end → IsPast P value end f next from n at i → i < n → (P (value at.place) → ⊥) → All P (values value end from.place n) → ⊥
not_past {P = P} {value = value} {end = end} {from = from} {n = n} {i = i} steps past low fails =
    one_fails P value end from.place n i low (λ h. fails (subst (λ (p : ℕ). P (value p)) (sym (place_here steps past)) h))

-- the same for a test: none has passed it, or one does
abbrev pub Fails : {A : Type 0} → (A → Bool) → A → Type 0
Fails test v = test v ≡ false

test_here : {A : Type 0} {test : A → Bool} {value : ℕ → A} {end : ℕ → ℕ} {f : Cursor → Option BadTypelib} {next : Cursor → Cursor} {from : Cursor} {n : ℕ} {at : Cursor} {i : ℕ} → GoTo next end → IsPast (Fails test) value end f next from n at i → test (value at.place) ≡ true → test (value (reach end from.place i)) ≡ true
test_here {test = test} {value = value} steps past here = ap (λ (p : ℕ). test (value p)) (sym (place_here steps past)) ∙ here

pub any_here : {A : Type 0} {test : A → Bool} {value : ℕ → A} {end : ℕ → ℕ} {f : Cursor → Option BadTypelib} {next : Cursor → Cursor} {from : Cursor} {n : ℕ} {at : Cursor} {i : ℕ} → GoTo next end → IsPast (Fails test) value end f next from n at i → i < n → test (value at.place) ≡ true → list_any test (values value end from.place n) ≡ true
any_here {test = test} {value = value} {end = end} {from = from} {n = n} {i = i} steps past low here =
    any_passes value end from.place n i test low (test_here steps past here)

pub any_nowhere : {A : Type 0} {test : A → Bool} {value : ℕ → A} {end : ℕ → ℕ} {f : Cursor → Option BadTypelib} {next : Cursor → Cursor} {from : Cursor} {n : ℕ} {at : Cursor} {i : ℕ} → IsPast (Fails test) value end f next from n at i → n ≤ i → list_any test (values value end from.place n) ≡ false
any_nowhere {test = test} {value = value} {end = end} {from = from} {n = n} past over =
    none_passes value end from.place n test (λ j low. past.passed j (omega (arith, low, over)))

pub first_here : {A : Type 0} {test : A → Bool} {value : ℕ → A} {end : ℕ → ℕ} {f : Cursor → Option BadTypelib} {next : Cursor → Cursor} {from : Cursor} {n : ℕ} {at : Cursor} {i : ℕ} → GoTo next end → IsPast (Fails test) value end f next from n at i → i < n → test (value at.place) ≡ true → position test (values value end from.place n) ≡ Some i
first_here {test = test} {value = value} {end = end} {from = from} {n = n} {i = i} steps past low here =
    first_found value end from.place n i test low past.passed (test_here steps past here)

pub first_nowhere : {A : Type 0} {test : A → Bool} {value : ℕ → A} {end : ℕ → ℕ} {f : Cursor → Option BadTypelib} {next : Cursor → Cursor} {from : Cursor} {n : ℕ} {at : Cursor} {i : ℕ} → IsPast (Fails test) value end f next from n at i → n ≤ i → position test (values value end from.place n) ≡ None
first_nowhere {test = test} {value = value} {end = end} {from = from} {n = n} past over =
    none_found value end from.place n test (λ j low. past.passed j (omega (arith, low, over)))
