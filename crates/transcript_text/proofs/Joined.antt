-- Words with a space between each two, one word after the other.
use Rattle.std.proofs.Common.{◌≡◌, ℕ, zero, suc, ◌+◌, ◌<◌, ◌≤◌, List, [], ◌∷◌, ◌++◌, length, take, get_or, refl, sym, ap, ◌∙◌, arith, append_assoc}
use Rattle.std.specs.List.{join_with_byte}
use Rattle.std.proofs.lemmas.List.{take_more}

-- one word more, behind words of which there is one at least
join-more : (c : ℕ) (x : List ℕ) (xs : List (List ℕ)) (y : List ℕ)
    → join_with_byte c ((x ∷ xs) ++ y ∷ []) ≡ join_with_byte c (x ∷ xs) ++ c ∷ y
join-more c x [] y = refl
join-more c x (z ∷ zs) y =
    ap (λ l. x ++ c ∷ l) (join-more c z zs y)
    ∙ sym (append_assoc x (c ∷ join_with_byte c (z ∷ zs)) (c ∷ y))

-- the first word
pub first-joined : (c : ℕ) (xs : List (List ℕ)) (i : ℕ) (d : List ℕ) → i < length xs → i ≤ 0
    → join_with_byte c (take i xs) ++ get_or xs i d ≡ join_with_byte c (take (i + 1) xs)
first-joined c [] zero d within first = absurd (omega (arith, within))
first-joined c (x ∷ xs) zero d within first = refl
first-joined c xs (suc i) d within first = absurd (omega (arith, first))

-- each further word
pub next-joined : (c : ℕ) (xs : List (List ℕ)) (i : ℕ) (d : List ℕ) → i < length xs → 0 < i
    → (join_with_byte c (take i xs) ++ c ∷ []) ++ get_or xs i d ≡ join_with_byte c (take (i + 1) xs)
next-joined c xs zero d within later = absurd (omega (arith, later))
next-joined c [] (suc i) d within later = absurd (omega (arith, within))
next-joined c (x ∷ xs) (suc i) d within later =
    append_assoc (join_with_byte c (x ∷ take i xs)) (c ∷ []) (get_or xs i d)
    ∙ sym (join-more c x (take i xs) (get_or xs i d))
    ∙ ap (join_with_byte c) (ap (λ l. x ∷ l) (sym (take_more xs i d (omega (arith, within))))
    ∙ (let one : suc (i + 1) ≡ suc i + 1 = omega arith in ap (λ n. take n (x ∷ xs)) one))
