-- A range of a text, cut where the text ends.
use Rattle.std.proofs.Common.{◌≡◌, ◌≤◌, ◌<◌, ℕ, zero, suc, min, List, [], ◌∷◌, length, take, drop, refl, arith}
use Rattle.std.proofs.lemmas.List.{take_min}

drop-cut : (m n : ℕ) (xs : List ℕ) → m ≤ n → m ≤ length xs → (m < n → m ≡ length xs) → drop m xs ≡ drop n xs
drop-cut zero zero xs h i j = refl
drop-cut zero (suc n) [] h i j = refl
drop-cut zero (suc n) (x ∷ xs) h i j = absurd (let e = j (omega arith) in omega arith)
drop-cut (suc m) zero xs h i j = absurd (omega arith)
drop-cut (suc m) (suc n) [] h i j = absurd (omega arith)
drop-cut (suc m) (suc n) (x ∷ xs) h i j = drop-cut m n xs (omega arith) (omega arith) (λ k. let e = j (omega arith) in omega arith)

pub spelled : (start longest : ℕ) (text : List ℕ) → take (min longest (length (drop (min start (length text)) text))) (drop (min start (length text)) text) ≡ take longest (drop start text)
spelled start longest text =
    let cut : drop (min start (length text)) text ≡ drop start text = drop-cut (min start (length text)) start text (omega arith) (omega arith) (λ k. omega arith) in
    rw cut (take_min longest (drop start text))
