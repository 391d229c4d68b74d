-- Something for each element, found one by one.
use Rattle.std.proofs.Common.{◌≡◌, ℕ, ◌<◌, ◌+◌, List, [], ◌∷◌, ◌++◌, length, take, drop, get_or, Option, Some, None, ap, refl, sym, subst, ◌∙◌}
use Rattle.std.specs.Prelude.{option_and_then, option_map}
use Rattle.std.proofs.lemmas.List.{drop_more, take-append-drop, take_more}
use Rattle.script_meaning.specs.Refusing.{each_of}

abbrev one_then : {B : Type 0} → Option B → Option (List B) → Option (List B)
one_then first rest = option_and_then (λ y. option_map (λ ys. y ∷ ys) rest) first

abbrev then_one : {B : Type 0} → Option (List B) → Option B → Option (List B)
then_one front last = option_and_then (λ ys. option_map (λ y. ys ++ y ∷ []) last) front

first-last : {B : Type 0} (first : Option B) (front : Option (List B)) (last : Option B)
    → one_then first (then_one front last) ≡ then_one (one_then first front) last
first-last None front last = refl
first-last (Some y) None last = refl
first-last (Some y) (Some ys) None = refl
first-last (Some y) (Some ys) (Some z) = refl

alone : {B : Type 0} (o : Option B) → one_then o (Some []) ≡ then_one (Some []) o
alone None = refl
alone (Some y) = refl

nothing : {B : Type 0} (o : Option B) → one_then o None ≡ None
nothing None = refl
nothing (Some y) = refl

module _ {A B : Type 0} (f : A → Option B) where
  each-last : (xs : List A) (x : A) → each_of f (xs ++ x ∷ []) ≡ then_one (each_of f xs) (f x)
  each-last [] x = alone (f x)
  each-last (z ∷ xs) x = ap (one_then (f z)) (each-last xs x) ∙ first-last (f z) (each_of f xs) (f x)

  each-none : (xs : List A) (x : A) (rest : List A) → f x ≡ None → each_of f (xs ++ x ∷ rest) ≡ None
  each-none [] x rest none = ap (λ o. one_then o (each_of f rest)) none
  each-none (z ∷ xs) x rest none = ap (one_then (f z)) (each-none xs x rest none) ∙ nothing (f z)

  -- one element more has something too
  pub each-more : (xs : List A) (i : ℕ) (x : A) (ys : List B) (y : B) → i < length xs → get_or xs i x ≡ x
      → each_of f (take i xs) ≡ Some ys → f x ≡ Some y → each_of f (take (i + 1) xs) ≡ Some (ys ++ y ∷ [])
  each-more xs i x ys y lt is front one =
      ap (each_of f) (take_more xs i x lt ∙ ap (λ z. take i xs ++ z ∷ []) is)
      ∙ each-last (take i xs) x
      ∙ ap (λ o. then_one o (f x)) front
      ∙ ap (then_one (Some ys)) one

  -- an element that has nothing leaves nothing for all
  pub each-stops : (xs : List A) (i : ℕ) (x : A) → i < length xs → get_or xs i x ≡ x → f x ≡ None
      → each_of f xs ≡ None
  each-stops xs i x lt is none =
      let whole : take i xs ++ x ∷ drop (i + 1) xs ≡ xs =
      ap (λ l. take i xs ++ l) (sym (drop_more xs i x lt ∙ ap (λ z. z ∷ drop (i + 1) xs) is)) ∙ take-append-drop i xs in
      subst (λ l. each_of f l ≡ None) whole (each-none (take i xs) x (drop (i + 1) xs) none)
