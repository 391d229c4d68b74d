-- Elements of lists, and lists in ascending order.
use Rattle.std.proofs.Common.{◌≡◌, ℕ, zero, suc, ◌+◌, ◌⊎◌, inl, inr, List, [], ◌∷◌, ◌++◌, refl, arith}
use Rattle.idl_meaning.specs.Order.{Among, Ascending}

pub among_left : {A : Type 0} (x : A) (xs ys : List A) → Among x xs → Among x (xs ++ ys)
among_left x [] ys h = absurd h
among_left x (y ∷ xs) ys (inl e) = inl e
among_left x (y ∷ xs) ys (inr h) = inr (among_left x xs ys h)

pub among_right : {A : Type 0} (x : A) (xs ys : List A) → Among x ys → Among x (xs ++ ys)
among_right x [] ys h = h
among_right x (y ∷ xs) ys h = inr (among_right x xs ys h)

pub among_cases : {A : Type 0} (x : A) (xs ys : List A) → Among x (xs ++ ys) → Among x xs ⊎ Among x ys
among_cases x [] ys h = inr h
among_cases x (y ∷ xs) ys (inl e) = inl (inl e)
among_cases x (y ∷ xs) ys (inr h) = go (among_cases x xs ys h) where
  go : Among x xs ⊎ Among x ys → Among x (y ∷ xs) ⊎ Among x ys
  go (inl a) = inl (inr a)
  go (inr b) = inr b

pub ascending_append : {A : Type 0} (R : A → A → Type 0) (xs ys : List A) → ((x y : A) → Among x xs → Among y ys → R x y)
    → Ascending R xs → Ascending R ys → Ascending R (xs ++ ys)
ascending_append R [] ys across first rest = rest
ascending_append {A} R (x ∷ xs) ys across first rest = (
  λ y h. go y (among_cases y xs ys h),
  ascending_append R xs ys (λ a b h k. across a b (inr h) k) first.1 rest,
) where
  go : (y : A) → Among y xs ⊎ Among y ys → R x y
  go y (inl h) = first.0 y h
  go y (inr h) = across x y (inl refl) h

-- ---- numbers that are counted on

-- the number that comes k steps later
abbrev pub later : ℕ → ℕ → ℕ
later zero n = n
later (suc k) n = later k (suc n)

pub later-is : (k n : ℕ) → later k n ≡ k + n
later-is zero n = omega arith
later-is (suc k) n = let h = later-is k (suc n) in omega (arith, h)

pub later-from_zero : (k : ℕ) → later k 0 ≡ k
later-from_zero k = let h = later-is k 0 in omega (arith, h)

pub later-from_one : (k : ℕ) → later k 1 ≡ suc k
later-from_one k = let h = later-is k 1 in omega (arith, h)
