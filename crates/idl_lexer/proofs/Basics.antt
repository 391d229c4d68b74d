-- Small lemmas on tests, options and lists.
use Rattle.std.proofs.Common.{◌≡◌, Bool, true, false, cond, ◌&&◌, ◌⊎◌, inl, inr, List, [], ◌∷◌, ◌++◌, length, Option, Some, None, refl, ap, arith, length-append}
use Rattle.std.specs.Prelude.{option_and_then}
use Rattle.std.specs.Option.{option_map, option_or}

abbrev pub pair : {A B : Type 0} → A → B → A × B
pair x y = (x, y)

pub some_alike : {A : Type 0} {x y : A} → Some x ≡ Some y → x ≡ y
some_alike e = cc

-- what is taken and given on as it is
pub and_then_some : {A : Type 0} (o : Option A) → option_and_then (λ x. Some x) o ≡ o
and_then_some (Some x) = refl
and_then_some None = refl

-- which way a test went
pub chosen : {A : Type 0} (b : Bool) (x y z : A) → cond b x y ≡ z → ((b ≡ true) × (x ≡ z)) ⊎ ((b ≡ false) × (y ≡ z))
chosen true x y z e = inl (refl, e)
chosen false x y z e = inr (refl, e)

-- what a test that must succeed gives
pub guarded : {A : Type 0} (b : Bool) (x y : A) → cond b (Some x) None ≡ Some y → (b ≡ true) × (x ≡ y)
guarded true x y e = (refl, cc)
guarded false x y e = cc

pub bound : {A B : Type 0} (f : A → Option B) (o : Option A) (y : B) → option_and_then f o ≡ Some y → (x : A) × (o ≡ Some x) × (f x ≡ Some y)
bound f (Some x) y e = (x, refl, e)
bound f None y e = cc

pub mapped : {A B : Type 0} (f : A → B) (o : Option A) (y : B) → option_map f o ≡ Some y → (x : A) × (o ≡ Some x) × (f x ≡ y)
mapped f (Some x) y e = (x, refl, cc)
mapped f None y e = cc

pub either_of : {A : Type 0} (o p : Option A) (y : A) → option_or o p ≡ Some y → (o ≡ Some y) ⊎ ((o ≡ None) × (p ≡ Some y))
either_of (Some x) p y e = inl e
either_of None p y e = inr (refl, e)

pub both_true : (a b : Bool) → (a && b) ≡ true → (a ≡ true) × (b ≡ true)
both_true true b e = (refl, e)
both_true false b e = cc

pub consed : {A : Type 0} (x y : A) (xs ys : List A) → x ≡ y → xs ≡ ys → x ∷ xs ≡ y ∷ ys
consed x y xs ys p q = cc

-- a shorter text that goes on as a longer one is its front
pub same_length : {A : Type 0} (xs ys us vs : List A) → xs ++ us ≡ ys ++ vs → length us ≡ length vs → (xs ≡ ys) × (us ≡ vs)
same_length [] [] us vs e h = (refl, e)
same_length [] (y ∷ ys) us vs e h =
    let n : length us ≡ length ((y ∷ ys) ++ vs) = ap length e in
    absurd (omega (arith, length-append (y ∷ ys) vs))
same_length (x ∷ xs) [] us vs e h =
    let n : length ((x ∷ xs) ++ us) ≡ length vs = ap length e in
    absurd (omega (arith, length-append (x ∷ xs) us))
same_length (x ∷ xs) (y ∷ ys) us vs e h =
    let heads : x ≡ y = cc in
    let tails : xs ++ us ≡ ys ++ vs = cc in
    let more = same_length xs ys us vs tails h in
    (consed x y xs ys heads more.0, more.1)
