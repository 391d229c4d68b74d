-- The cells as numbers, of which bytes are added, taken away, read and written.
use Rattle.std.proofs.Common.{◌≡◌, ℕ, zero, suc, ◌+◌, ◌-◌, ◌*◌, ◌/◌, ◌%◌, ◌^◌, ◌<◌, ◌≤◌, List, [], ◌∷◌, ◌++◌, length, take, drop, replicate, get_or, refl, sym, ap, ◌∙◌, arith, length-append, length-take, length-drop, Some}
use Rattle.std.proofs.lemmas.List.{append-nil, take-append-le, drop-append-le, take-append-drop, take_at, drop_at, take-replicate, drop-replicate, get_or-append_right, length-take-le, length-replicate}
use Rattle.std.proofs.Math.Nat.{mod-eq_of_lt}
use Rattle.std.specs.Prelude.{slice_range}
use Rattle.xp_base.specs.LittleEndian.{low_bytes, number_of}
use Rattle.xp_base.proofs.LittleEndian.{length-low_bytes, number_of-low_bytes}
use Rattle.raw_block.specs.Bytes.{overwritten}
use Rattle.object_memory.specs.Cells.{numbers, cell_numbers}
use Rattle.object_memory.proofs.Lists.{length-overwritten}

pub length-numbers : (n : ℕ) (bytes : List ℕ) → length (numbers n bytes) ≡ n
unfolding numbers
length-numbers zero bytes = refl
length-numbers (suc n) bytes = ap suc (length-numbers n (drop 8 bytes))

-- the numbers of bytes in two parts
pub numbers-append : (p q : ℕ) (xs ys : List ℕ) → length xs ≡ 8 * p → numbers (p + q) (xs ++ ys) ≡ numbers p xs ++ numbers q ys
unfolding numbers
numbers-append zero q [] ys e = let same : 0 + q ≡ q = omega arith in ap (λ k. numbers k ys) same
numbers-append zero q (x ∷ xs) ys e = absurd (omega (arith, e))
numbers-append (suc p) q xs ys e =
    let next : suc p + q ≡ suc (p + q) = omega arith in
    let enough : 8 ≤ length xs = omega (arith, e) in
    let left : length (drop 8 xs) ≡ 8 * p = omega (arith, e, length-drop 8 xs) in
    ap (λ k. numbers k (xs ++ ys)) next
    ∙ (λ i. number_of (take-append-le 8 xs ys enough i) ∷ numbers (p + q) (drop-append-le 8 xs ys enough i))
    ∙ ap (λ l. number_of (take 8 xs) ∷ l) (numbers-append p q (drop 8 xs) ys left)

-- the first k numbers, and those after them
module _ (n k : ℕ) (bytes : List ℕ) (few : k ≤ n) (fits : 8 * k ≤ length bytes) where
  first_len : length (take (8 * k) bytes) ≡ 8 * k
  first_len = length-take-le (8 * k) bytes fits

  numbers-split : numbers n bytes ≡ numbers k (take (8 * k) bytes) ++ numbers (n - k) (drop (8 * k) bytes)
  numbers-split =
      let sum : n ≡ k + (n - k) = omega (arith, few) in
      ap (λ j. numbers j bytes) sum ∙ ap (λ l. numbers (k + (n - k)) l) (sym (take-append-drop (8 * k) bytes)) ∙ numbers-append k (n - k) (take (8 * k) bytes) (drop (8 * k) bytes) first_len

  pub take-numbers : take k (numbers n bytes) ≡ numbers k (take (8 * k) bytes)
  take-numbers =
      ap (take k) numbers-split ∙ take_at (numbers k (take (8 * k) bytes)) (numbers (n - k) (drop (8 * k) bytes)) k (length-numbers k (take (8 * k) bytes))

  pub drop-numbers : drop k (numbers n bytes) ≡ numbers (n - k) (drop (8 * k) bytes)
  drop-numbers =
      ap (drop k) numbers-split ∙ drop_at (numbers k (take (8 * k) bytes)) (numbers (n - k) (drop (8 * k) bytes)) k (length-numbers k (take (8 * k) bytes))

numbers-one : (n : ℕ) (bytes : List ℕ) → 1 ≤ n → get_or (numbers n bytes) 0 0 ≡ number_of (take 8 bytes)
unfolding numbers
numbers-one zero bytes some = absurd (omega (arith, some))
numbers-one (suc n) bytes some = refl

-- the number of cell k
pub get_or-cell_numbers : (cells : List ℕ) (k : ℕ) → 8 * k + 8 ≤ length cells → get_or (cell_numbers cells) k 0 ≡ number_of (slice_range cells (8 * k) (8 * k + 8))
get_or-cell_numbers cells k within =
    let n = length cells / 8 in
    let few : k ≤ n = omega (arith, within) in let some : 1 ≤ n - k = omega (arith, within) in
    let fits : 8 * k ≤ length cells = omega (arith, within) in
    let eight : 8 ≡ 8 * k + 8 - 8 * k = omega arith in
    let same : k ≤ k = omega arith in let here : 0 ≡ k - k = omega arith in
    ap (λ l. get_or l k 0) (numbers-split n k cells few fits)
    ∙ get_or-append_right (numbers k (take (8 * k) cells)) (numbers (n - k) (drop (8 * k) cells)) k k 0 (length-numbers k (take (8 * k) cells)) same
    ∙ ap (λ j. get_or (numbers (n - k) (drop (8 * k) cells)) j 0) (sym here)
    ∙ numbers-one (n - k) (drop (8 * k) cells) some
    ∙ ap (λ j. number_of (take j (drop (8 * k) cells))) eight

numbers-zeros : (n : ℕ) → numbers n (replicate (8 * n) 0) ≡ replicate n 0
unfolding numbers
numbers-zeros zero = refl
numbers-zeros (suc n) =
    let eight : 8 ≤ 8 * suc n = omega arith in let left : 8 * suc n - 8 ≡ 8 * n = omega arith in
    (λ i. number_of (take-replicate 8 (8 * suc n) 0 eight i) ∷ numbers n ((drop-replicate 8 (8 * suc n) 0 ∙ ap (λ j. replicate j 0) left) i))
    ∙ ap (λ l. 0 ∷ l) (numbers-zeros n)

-- cells of zero are pushed
pub cell_numbers-pushed : (cells : List ℕ) (pushed n : ℕ) → length cells ≡ 8 * pushed → cell_numbers (cells ++ replicate (8 * n) 0) ≡ cell_numbers cells ++ replicate n 0
cell_numbers-pushed cells pushed n whole =
    let count : length (cells ++ replicate {A = ℕ} (8 * n) 0) / 8 ≡ pushed + n = omega (arith, whole, length-append cells (replicate (8 * n) 0), length-replicate {A = ℕ} (8 * n) 0) in
    let old : pushed ≡ length cells / 8 = omega (arith, whole) in
    ap (λ k. numbers k (cells ++ replicate (8 * n) 0)) count
    ∙ numbers-append pushed n cells (replicate (8 * n) 0) whole
    ∙ (λ i. numbers (old i) cells ++ numbers-zeros n i)

-- one cell is written
pub cell_numbers-stored : (cells : List ℕ) (k v : ℕ) → 8 * k + 8 ≤ length cells → v < 2 ^ 64 → cell_numbers (overwritten cells (8 * k) (low_bytes 8 v)) ≡ overwritten (cell_numbers cells) k (v ∷ [])
unfolding numbers
cell_numbers-stored cells k v within small =
    let n = length cells / 8 in let low = low_bytes 8 v in let rest = drop (8 * k + length low) cells in
    let eight : length low ≡ 8 = length-low_bytes 8 v in
    let fits : 8 * k + length low ≤ length cells = omega (arith, within, eight) in
    let front : 8 * k ≤ length cells = omega (arith, within) in
    let few : k ≤ n = omega (arith, within) in let more : k + 1 ≤ n = omega (arith, within) in
    let past : 8 * (k + 1) ≤ length cells = omega (arith, within) in
    let same : length (overwritten cells (8 * k) low) / 8 ≡ k + (1 + (n - (k + 1))) = omega (arith, length-overwritten cells (8 * k) low fits, more) in
    let one : length low ≡ 8 * 1 = omega (arith, eight) in
    let place : 8 * k + length low ≡ 8 * (k + 1) = omega (arith, eight) in
    let all : take 8 low ≡ low = ap (take 8) (sym (append-nil low)) ∙ take_at low [] 8 eight in
    let number : number_of (take 8 low) ≡ v = ap number_of all ∙ number_of-low_bytes 8 v ∙ mod-eq_of_lt small in
    ap (λ j. numbers j (overwritten cells (8 * k) low)) same
    ∙ numbers-append k (1 + (n - (k + 1))) (take (8 * k) cells) (low ++ rest) (length-take-le (8 * k) cells front)
    ∙ ap (λ l. numbers k (take (8 * k) cells) ++ l) (numbers-append 1 (n - (k + 1)) low rest one)
    ∙ (λ i. sym (take-numbers n k cells few front) i ++ ((number i ∷ []) ++ numbers (n - (k + 1)) (drop (place i) cells)))
    ∙ ap (λ l. take k (cell_numbers cells) ++ ((v ∷ []) ++ l)) (sym (drop-numbers n (k + 1) cells more past))
