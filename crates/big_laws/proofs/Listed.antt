-- Lists of what a function gives of numbers.
use Rattle.std.proofs.Common.{◌≡◌, ℕ, zero, suc, ◌+◌, ◌<◌, ◌∷◌, ◌++◌, length, get_or, slice_get, Some, None, refl, sym, ap, ◌∙◌, arith}
use Rattle.std.proofs.lemmas.Option.{same_Some}
use Rattle.big_laws.specs.Trees.{listed}

pub length_listed : {A : Type 0} (f : ℕ → A) (n i : ℕ) → length (listed f i n) ≡ n
length_listed f zero i = refl
length_listed f (suc n) i = ap suc (length_listed f n (suc i))

pub listed_split : {A : Type 0} (f : ℕ → A) (n i m : ℕ)
    → listed f i n ++ listed f (i + n) m ≡ listed f i (n + m)
listed_split f zero i m =
    let one : i + 0 ≡ i = omega arith in
    let other : m ≡ 0 + m = omega arith in
    ap (λ j. listed f j m) one ∙ ap (listed f i) other
listed_split f (suc n) i m =
    let one : i + suc n ≡ suc i + n = omega arith in
    let other : suc (n + m) ≡ suc n + m = omega arith in
    ap (λ j. f i ∷ (listed f (suc i) n ++ listed f j m)) one
    ∙ ap (λ xs. f i ∷ xs) (listed_split f n (suc i) m) ∙ ap (listed f i) other

pub listed_at : {A : Type 0} (f : ℕ → A) (n i k : ℕ) (d : A) → k < n
    → get_or (listed f i n) k d ≡ f (i + k)
listed_at f zero i k d within = absurd (omega (arith, within))
listed_at f (suc n) i zero d within = let same : i ≡ i + 0 = omega arith in ap f same
listed_at f (suc n) i (suc k) d within =
    let same : suc i + k ≡ i + suc k = omega arith in
    listed_at f n (suc i) k d (omega (arith, within)) ∙ ap f same

-- each element is one of them
pub listed_found : {A : Type 0} (f : ℕ → A) (n i k : ℕ) (x : A)
    → slice_get (listed f i n) k ≡ Some x → (k < n) × (x ≡ f (i + k))
listed_found f zero i k x is = absurd (let no : None ≡ Some x = is in cc)
listed_found f (suc n) i zero x is =
    let same : i ≡ i + 0 = omega arith in
    (omega arith, sym (same_Some (f i) x is) ∙ ap f same)
listed_found f (suc n) i (suc k) x is =
    let same : suc i + k ≡ i + suc k = omega arith in
    let more = listed_found f n (suc i) k x is in
    (omega (arith, more.0), more.1 ∙ ap f same)
