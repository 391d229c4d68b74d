-- Numbers as words of decimal digits.
use Rattle.std.specs.Prelude.{ℕ, Bool, not, ◌&&◌, ◌==◌, nat_le, List, length, slice_index, Option, Some, None, if◌then◌else◌}
use Rattle.std.specs.List.{list_all}
use Rattle.std.specs.Char.{is_digit}
use Rattle.std.specs.Str.Parse.{digits_value}

-- a word of at most 20 decimal digits writes its number; another one counts as nothing
abbrev pub is_number : List ℕ → Bool
is_number word = nat_le (length word) 20 && list_all (λ b. is_digit b 10) word

abbrev pub number_of : List ℕ → ℕ
number_of word = if is_number word then digits_value 10 word else 0

-- the number of `big`: 1 to 249, in decimal with no leading zero
abbrev pub is_big_number : List ℕ → Bool
is_big_number word =
    not (slice_index word 0 == 48) && nat_le 1 (number_of word) && nat_le (number_of word) 249

abbrev pub big_number : List ℕ → Option ℕ
big_number word = if is_big_number word then Some (number_of word) else None
