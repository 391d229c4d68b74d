-- The sum of the values on one line more.
use Rattle.std.proofs.Common.{◌≡◌, ℕ, ◌+◌, ◌<◌, ◌≤◌, min, List, [], ◌∷◌, ◌++◌, length, map, take, get_or, Bor, refl, sym, ap, ◌∙◌, inl, inr, arith}
use Rattle.std.proofs.lemmas.Bool.{cases_lt}
use Rattle.std.proofs.lemmas.List.{get_or-map, length-map, take_more}
use Rattle.std.proofs.Math.Nat.{min-eq_left, min-eq_right}
use Rattle.big_texts.specs.Summary.{sum_on, value_in, words_of}

sum_more : (lines : List (List ℕ)) (l : List ℕ)
    → sum_on (lines ++ l ∷ []) ≡ sum_on lines + value_in (words_of l)
sum_more [] l = omega arith
sum_more (x ∷ lines) l = let more = sum_more lines l in omega (arith, more)

-- a sum that stops at its most stops there however it is cut
saturated : (a b most : ℕ) → min (min a most + b) most ≡ min (a + b) most
saturated a b most = elim (cases_lt a most) [
  | inl below ↦ let low : a ≤ most = omega (arith, below) in rw (min-eq_left low) refl
  | inr above ↦
      let all : most ≤ a = omega (arith, above) in
      let more : most ≤ a + b = omega (arith, all) in
      let still : most ≤ most + b = omega arith in
      rw (min-eq_right all, min-eq_right more, min-eq_right still) refl
]

sum_next : (lines : List (List ℕ)) (k : ℕ) (l : List ℕ) (most : ℕ) → k < length lines
    → get_or lines k [] ≡ l
    → min (min (sum_on (take k lines)) most + value_in (words_of l)) most
    ≡ min (sum_on (take (k + 1) lines)) most
sum_next lines k l most within is =
    let more : take (k + 1) lines ≡ take k lines ++ l ∷ [] =
    take_more lines k [] within ∙ ap (λ x. take k lines ++ x ∷ []) is in
    saturated (sum_on (take k lines)) (value_in (words_of l)) most
    ∙ ap (λ n. min n most) (sym (sum_more (take k lines) l) ∙ ap sum_on (sym more))

-- the same of lines that are borrowed
pub borrowed_next : (lines : List (Bor (List ℕ))) (k : ℕ) (d : Bor (List ℕ)) (most : ℕ)
    → k < length lines
    → min (min (sum_on (take k (map (λ x. x.now) lines))) most
    + value_in (words_of (get_or lines k d).now)) most
    ≡ min (sum_on (take (k + 1) (map (λ x. x.now) lines))) most
borrowed_next lines k d most within =
    let now : Bor (List ℕ) → List ℕ = λ x. x.now in
    sum_next (map now lines) k (now (get_or lines k d)) most
    (omega (arith, within, length-map lines now)) (get_or-map now lines k d [] within)
