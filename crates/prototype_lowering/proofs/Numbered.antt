-- The numbers of a directory, as they are written from its end on.
use Rattle.std.proofs.Common.{◌≡◌, ℕ, suc, ◌+◌, ◌<◌, ◌≤◌, Bool, true, false, not, cond, List, ◌∷◌, length, get_or, set, drop, ◌≢◌, length-drop, nat_eq, refl, sym, ap, ◌∙◌, subst, arith, get_or-set_other, get_or-set_same}
use Rattle.std.specs.List.{position_or_len}
use Rattle.std.proofs.lemmas.List.{at_drop_more}

-- the numbers of those that stand from a place on
abbrev pub Filled : List ℕ → List ℕ → ℕ → Type 0
Filled numbers rest place =
    (k : ℕ) → position_or_len (nat_eq k) rest < length rest
    → get_or numbers k 0 ≡ place + suc (position_or_len (nat_eq k) rest)

abbrev pub IsFilled : List ℕ → List ℕ → ℕ → Type 0
IsFilled order numbers place = Filled numbers (drop place order) place

step : (numbers rest : List ℕ) (x place : ℕ) → x < length numbers → Filled numbers rest (place + 1)
    → Filled (set numbers x (place + 1)) (x ∷ rest) place
step numbers rest x place within filled k inside = go (nat_eq k x) refl inside
  where
    go : (b : Bool) → nat_eq k x ≡ b
        → cond (not b) (1 + position_or_len (nat_eq k) rest) 0 < suc (length rest)
        → get_or (set numbers x (place + 1)) k 0
        ≡ place + suc (cond (not b) (1 + position_or_len (nat_eq k) rest) 0)
    go true e h = let same : k ≡ x =
        grind (arith, e) in ap (λ n. get_or (set numbers x (place + 1)) n 0) same ∙ get_or_same
        ∙ (let s : place + 1 ≡ place + suc 0 = omega arith in s)
      where
        get_or_same : get_or (set numbers x (place + 1)) x 0 ≡ place + 1
        get_or_same = rw get_or-set_same refl
    go false e h =
        let other : k ≢ x = grind (arith, e)
        in let same : get_or (set numbers x (place + 1)) k 0 ≡ get_or numbers k 0 =
        rw get_or-set_other refl
        in same ∙ filled k (omega (arith, h))
        ∙ (let s : place + 1 + suc (position_or_len (nat_eq k) rest)
        ≡ place + suc (1 + position_or_len (nat_eq k) rest) = omega arith in s)

pub filled_more : (order numbers : List ℕ) (place : ℕ) → place < length order
    → get_or order place 0 < length numbers → IsFilled order numbers (place + 1)
    → IsFilled order (set numbers (get_or order place 0) (place + 1)) place
filled_more order numbers place inside within filled =
    subst (λ (rest : List ℕ). Filled (set numbers (get_or order place 0) (place + 1)) rest place)
    (sym (at_drop_more (λ (xs : List ℕ). xs) order place 0 inside))
    (step numbers (drop (place + 1) order) (get_or order place 0) place within filled)

pub filled_none : (order numbers : List ℕ) (place : ℕ) → length order ≤ place
    → IsFilled order numbers place
filled_none order numbers place past =
    λ k inside. absurd
    (let none : length (drop place order) ≡ 0 = omega (arith, length-drop place order)
    in omega (arith, inside))
