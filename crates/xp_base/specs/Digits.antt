-- Numbers as text: which texts are numbers, which number a text writes, and the text of a number.
use Rattle.std.specs.Prelude.{ℕ, false, ◌-◌, ◌≤◌, List, ◌++◌, length, drop, replicate, ℤ, pos, neg_ℤ, if◌then◌else◌}
use Rattle.std.specs.Str.Parse.{IsNumeral, digits_value, starts_with_minus}
use Rattle.std.specs.Fmt.{digits, signed_decimal}

-- 1 to `longest` digits in the radix, of either case, and nothing else
abbrev pub IsNatural : ℕ → ℕ → List ℕ → Type 0
IsNatural radix longest text = IsNumeral radix text × (length text ≤ longest)

-- 1 to 16 hexadecimal digits of either case
abbrev pub IsHex : List ℕ → Type 0
IsHex text = IsNatural 16 16 text

-- the number that hexadecimal digits write
abbrev pub hex_value : List ℕ → ℕ
hex_value text = digits_value 16 text

-- the text without the one `-` at its front, if it has one
abbrev pub without_minus : List ℕ → List ℕ
without_minus text = if starts_with_minus text then drop 1 text else text

-- an optional `-` and 1 to 20 decimal digits
abbrev pub IsDecimal : List ℕ → Type 0
IsDecimal text = IsNatural 10 20 (without_minus text)

-- the number that an optional `-` and decimal digits write
abbrev pub decimal_value : List ℕ → ℤ
decimal_value text =
    if starts_with_minus text then neg_ℤ (pos (digits_value 10 (drop 1 text)))
    else pos (digits_value 10 text)

-- a natural number in lower-case hexadecimal digits with no leading zero; zero is `0`
abbrev pub hex_digits : ℕ → List ℕ
hex_digits value = digits 16 false value

-- the same with zeros in front, so that it has `len` digits
abbrev pub hex_digits_fixed : ℕ → ℕ → List ℕ
hex_digits_fixed len value = replicate (len - length (hex_digits value)) 48 ++ hex_digits value

-- an integer in decimal: a `-` where it is negative, and digits with no leading zero; zero is `0`
abbrev pub decimal_text : ℤ → List ℕ
decimal_text value = signed_decimal value
