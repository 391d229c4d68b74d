-- How many numbers the pushed cells have, and one more of them.
use Rattle.std.proofs.Common.{◌≡◌, ℕ, ◌+◌, ◌*◌, ◌-◌, ◌/◌, ◌<◌, ◌≤◌, List, [], ◌∷◌, ◌++◌, length, take, get_or, ◌∙◌, arith}
use Rattle.std.proofs.lemmas.List.{take_all, take_more}
use Rattle.object_memory.specs.Cells.{cell_numbers}
use Rattle.object_memory.proofs.CellNumbers.{length-numbers}

-- all cells but the free ones
pub counted : (cells : List ℕ) (free : ℕ) → length cells + 8 * free ≡ 524288
    → length (cell_numbers cells) ≡ 65536 - free
counted cells free e = length-numbers (length cells / 8) cells ∙ omega arith

pub one-more : (cells : List ℕ) (free k : ℕ) → length cells + 8 * free ≡ 524288
    → k < 65536 - free
    → take (k + 1) (cell_numbers cells)
    ≡ take k (cell_numbers cells) ++ get_or (cell_numbers cells) k 0 ∷ []
one-more cells free k e lt =
    let n : length (cell_numbers cells) ≡ 65536 - free = counted cells free e in
    let within : k < length (cell_numbers cells) = omega arith in
    take_more (cell_numbers cells) k 0 within

pub all-of-them : (cells : List ℕ) (free k : ℕ) → length cells + 8 * free ≡ 524288
    → 65536 - free ≤ k
    → take k (cell_numbers cells) ≡ cell_numbers cells
all-of-them cells free k e passed =
    let n : length (cell_numbers cells) ≡ 65536 - free = counted cells free e in
    let within : length (cell_numbers cells) ≤ k = omega arith in
    take_all k (cell_numbers cells) within
