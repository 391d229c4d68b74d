-- What holds of each number below a bound, shown by computing it of each.
use Rattle.std.proofs.Common.{◌≡◌, ℕ, zero, suc, ◌<◌, List, [], ◌∷◌, get_or, refl, ap, inl, inr, ◌⊎◌, arith}

-- the values of the numbers below a bound, the last one first
abbrev pub below : {A : Type 0} → (f : ℕ → A) → ℕ → List A
below f zero = []
below f (suc n) = f n ∷ below f n

abbrev rest_of : {A : Type 0} → List A → List A
rest_of [] = []
rest_of (x ∷ xs) = xs

last_or : (k n : ℕ) → k < suc n → (k ≡ n) ⊎ (k < n)
last_or zero zero within = inl refl
last_or zero (suc n) within = inr (omega arith)
last_or (suc k) zero within = absurd (omega (arith, within))
last_or (suc k) (suc n) within = elim (last_or k n (omega (arith, within))) [
  | inl same ↦ inl (ap suc same)
  | inr less ↦ inr (omega (arith, less))
]

-- two functions with the same values below the bound are the same at each number there
pub same_at : {A : Type 0} (f g : ℕ → A) (n : ℕ) → below f n ≡ below g n → (k : ℕ) → k < n
    → f k ≡ g k
same_at f g zero same k within = absurd (omega (arith, within))
same_at f g (suc n) same k within = elim (last_or k n within) [
  | inl is ↦ rw is (ap (λ xs. get_or xs 0 (f n)) same)
  | inr less ↦ same_at f g n (ap rest_of same) k less
]
