-- Bytes in the middle of others.
use Rattle.std.specs.Prelude.{ℕ, ◌+◌, List, ◌++◌, length, take, drop}

-- xs with ys in the place of as many bytes from `at` on
abbrev pub overwritten : List ℕ → ℕ → List ℕ → List ℕ
overwritten xs at ys = take at xs ++ (ys ++ drop (at + length ys) xs)
