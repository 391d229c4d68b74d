-- The words that a script's lines are made of, one by one: names, numbers, bytes, IIDs and register
-- names.
use Rattle.std.specs.Prelude.{◌≡◌, ℕ, ◌<◌, Bool, not, ◌&&◌, ◌||◌, ◌==◌, nat_lt, nat_le, ◌⊎◌, List, ◌++◌, length, slice_index, ℤ, pos, codes, Some, Ok}
use Rattle.call_model.specs.declared.places.Conv.{Conv}
use Rattle.call_model.specs.declared.places.Conv.TheVariants.{SysV64, I386, Aapcs64, Ms64, Aapcs32}
use Rattle.std.specs.List.{list_all}
use Rattle.std.specs.Char.{is_ascii_digit}
use Rattle.std.specs.Str.Parse.{digits_value}
use Rattle.hex.specs.Hex.{decode_of}
use Rattle.uuid.specs.Text.{parsed_hyphenated}
use Rattle.line_words.specs.Words.{Word}
use Rattle.xp_base.specs.Digits.{IsNatural, IsHex, IsDecimal, hex_value, decimal_value}

-- a lower-case letter
abbrev pub is_lower : ℕ → Bool
is_lower b = nat_le 97 b && nat_le b 122

-- a letter, a digit or `_`
abbrev pub is_name_byte : ℕ → Bool
is_name_byte b = is_lower b || (nat_le 65 b && nat_le b 90) || is_ascii_digit b || (b == 95)

-- NAME: 1 to 255 letters, digits and `_`, of which the first is no digit
abbrev pub is_name : Word → Bool
is_name w =
    nat_lt 0 (length w) && nat_le (length w) 255 && list_all is_name_byte w
    && not (is_ascii_digit (slice_index w 0))

-- the name of a register: a lower-case letter, and lower-case letters and digits after it
abbrev pub is_register : Word → Bool
is_register w =
    nat_lt 0 (length w) && is_lower (slice_index w 0)
    && list_all (λ b. is_lower b || is_ascii_digit b) w

-- NUMBER: an optional `-` and 1 to 20 decimal digits, or `0x` and 1 to 16 hexadecimal digits
abbrev pub IsNumber : Word → ℤ → Type 0
IsNumber w n =
    (IsDecimal w × (n ≡ decimal_value w))
    ⊎ ((digits : Word) × (w ≡ codes "0x" ++ digits) × IsHex digits × (n ≡ pos (hex_value digits)))

-- so many digits in a radix at most, at least one of them, and no sign
abbrev pub IsDigits : ℕ → ℕ → Word → ℕ → Type 0
IsDigits radix longest w n = IsNatural radix longest w × (n ≡ digits_value radix w)

-- HEX: two hexadecimal digits a byte, and one byte at least
abbrev pub IsBytes : Word → List ℕ → Type 0
IsBytes w bytes = (0 < length w) × (decode_of w ≡ Ok bytes)

-- an IID as RFC 9562 writes a UUID: hexadecimal digits in groups of 8, 4, 4, 4 and 12, joined by
-- `-`
abbrev pub IsIid : Word → List ℕ → Type 0
IsIid w bytes = parsed_hyphenated w ≡ Some bytes

-- CONV: the word that names a convention
abbrev pub conv_word : Conv → Word
conv_word SysV64 = codes "sysv64"
conv_word I386 = codes "i386"
conv_word Aapcs64 = codes "aapcs64"
conv_word Ms64 = codes "ms64"
conv_word Aapcs32 = codes "aapcs32"
