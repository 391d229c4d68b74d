-- Bytes in the middle of others, taken and dropped.
use Rattle.std.proofs.Common.{◌≡◌, ℕ, ◌+◌, ◌-◌, ◌<◌, ◌≤◌, List, [], ◌∷◌, ◌++◌, length, take, drop, replicate, refl, sym, ap, ◌∙◌, arith, length-append, length-take, length-drop, append_assoc}
use Rattle.std.proofs.lemmas.List.{take-append-drop, replicate_more, take_at, drop_at, take-take, drop-take, length-replicate}
use Rattle.std.proofs.Math.Seq.{take-append-add, drop-append-add, drop-drop}
use Rattle.std.specs.Prelude.{slice_range}
use Rattle.raw_block.specs.Bytes.{overwritten}

module _ (xs : List ℕ) (at : ℕ) (ys : List ℕ) (within : at + length ys ≤ length xs) where
  front_len : length (take at xs) ≡ at
  front_len = omega (arith, length-take at xs, within)

  pub length-overwritten : length (overwritten xs at ys) ≡ length xs
  length-overwritten =
      omega (arith, within, front_len, length-append (take at xs) (ys ++ drop (at + length ys) xs), length-append ys (drop (at + length ys) xs), length-drop (at + length ys) xs)

  -- so many bytes from the first written one on
  take_further : (k : ℕ) → take (at + (length ys + k)) (overwritten xs at ys) ≡ take at xs ++ (ys ++ take k (drop (at + length ys) xs))
  take_further k =
      let rest = drop (at + length ys) xs in
      ap (λ j. take (j + (length ys + k)) (overwritten xs at ys)) (sym front_len) ∙ take-append-add (take at xs) (ys ++ rest) (length ys + k) ∙ ap (λ l. take at xs ++ l) (take-append-add ys rest k)

  drop_further : (k : ℕ) → drop (at + (length ys + k)) (overwritten xs at ys) ≡ drop k (drop (at + length ys) xs)
  drop_further k =
      let rest = drop (at + length ys) xs in
      ap (λ j. drop (j + (length ys + k)) (overwritten xs at ys)) (sym front_len) ∙ drop-append-add (take at xs) (ys ++ rest) (length ys + k) ∙ drop-append-add ys rest k

  pub drop-overwritten : (n : ℕ) → at + length ys ≤ n → drop n (overwritten xs at ys) ≡ drop n xs
  drop-overwritten n past =
      let k = n - (at + length ys) in let split : n ≡ at + (length ys + k) = omega (arith, past) in let again : (at + length ys) + k ≡ n = omega (arith, past) in
      ap (λ j. drop j (overwritten xs at ys)) split ∙ drop_further k ∙ drop-drop k (at + length ys) xs ∙ ap (λ j. drop j xs) again

  pub take-overwritten : (n : ℕ) → at + length ys ≤ n → take n (overwritten xs at ys) ≡ overwritten (take n xs) at ys
  take-overwritten n past =
      let k = n - (at + length ys) in let split : n ≡ at + (length ys + k) = omega (arith, past) in let again : (at + length ys) + k ≡ n = omega (arith, past) in
      let low : at ≤ n = omega (arith, past) in
      ap (λ j. take j (overwritten xs at ys)) split ∙ take_further k
      ∙ (λ i. sym (take-take at n xs low) i ++ (ys ++ (sym (drop-take (at + length ys) k xs) ∙ ap (λ j. drop (at + length ys) (take j xs)) again) i))

  -- up to the last byte that was written
  pub take_written : take (at + length ys) (overwritten xs at ys) ≡ take at xs ++ ys
  take_written =
      let rest = drop (at + length ys) xs in
      ap (λ l. take (at + length ys) l) (sym (append_assoc (take at xs) ys rest)) ∙ take_at (take at xs ++ ys) rest (at + length ys) (length-append (take at xs) ys ∙ ap (λ j. j + length ys) front_len)

  pub written_back : slice_range (overwritten xs at ys) at (at + length ys) ≡ ys
  written_back =
      let rest = drop (at + length ys) xs in let count : at + length ys - at ≡ length ys = omega arith in
      ap (λ l. take (at + length ys - at) l) (drop_at (take at xs) (ys ++ rest) at front_len) ∙ ap (λ j. take j (ys ++ rest)) count ∙ take_at ys rest (length ys) refl

  -- bytes that are written where the last ones ended
  pub overwritten_next : (zs : List ℕ) → at + length ys + length zs ≤ length xs → overwritten (overwritten xs at ys) (at + length ys) zs ≡ overwritten xs at (ys ++ zs)
  overwritten_next zs more =
      let past : at + length ys ≤ at + length ys + length zs = omega arith in
      let ends : at + length ys + length zs ≡ at + length (ys ++ zs) = omega (arith, length-append ys zs) in
      (λ i. take_written i ++ (zs ++ (drop-overwritten (at + length ys + length zs) past ∙ ap (λ j. drop j xs) ends) i))
      ∙ append_assoc (take at xs) ys (zs ++ drop (at + length (ys ++ zs)) xs)
      ∙ ap (λ l. take at xs ++ l) (sym (append_assoc ys zs (drop (at + length (ys ++ zs)) xs)))

pub overwritten_none : (xs : List ℕ) (at : ℕ) → overwritten xs at [] ≡ xs
overwritten_none xs at = let same : at + 0 ≡ at = omega arith in ap (λ j. take at xs ++ drop j xs) same ∙ take-append-drop at xs

-- no zero yet
pub zeros_none : (xs : List ℕ) (start : ℕ) → xs ≡ overwritten xs start (replicate (start - start) 0)
zeros_none xs start = let none : 0 ≡ start - start = omega arith in sym (overwritten_none xs start) ∙ ap (λ j. overwritten xs start (replicate j 0)) none

-- one zero more
pub zeros_next : (xs : List ℕ) (start i : ℕ) → start ≤ i → i < length xs → overwritten (overwritten xs start (replicate (i - start) 0)) i (0 ∷ []) ≡ overwritten xs start (replicate (i + 1 - start) 0)
zeros_next xs start i le lt =
    let count : length {A = ℕ} (replicate (i - start) 0) ≡ i - start = length-replicate (i - start) 0 in
    let ends : i ≡ start + length {A = ℕ} (replicate (i - start) 0) = omega (arith, le, count) in
    let within : start + length {A = ℕ} (replicate (i - start) 0) ≤ length xs = omega (arith, le, lt, count) in
    let more : start + length {A = ℕ} (replicate (i - start) 0) + length {A = ℕ} (0 ∷ []) ≤ length xs = omega (arith, le, lt, count) in
    let one : (i - start) + 1 ≡ i + 1 - start = omega (arith, le) in
    ap (λ j. overwritten (overwritten xs start (replicate (i - start) 0)) j (0 ∷ [])) ends
    ∙ overwritten_next xs start (replicate (i - start) 0) within (0 ∷ []) more
    ∙ ap (λ l. overwritten xs start l) (replicate_more (i - start) 0 ∙ ap (λ j. replicate j 0) one)
