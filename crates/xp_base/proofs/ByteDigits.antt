-- The two digits of a byte.
use Rattle.std.proofs.Common.{◌≡◌, ℕ, ◌/◌, ◌%◌, ◌<◌, ◌≤◌, false, [], ◌∷◌, refl, inl, inr, arith}
use Rattle.std.proofs.lemmas.Bool.{cases_lt}
use Rattle.std.specs.Fmt.{digit_glyph}
use Rattle.std.proofs.lemmas.Fmt.{hex_one_digit, hex_two_digits}
use Rattle.xp_base.specs.Digits.{hex_digits_fixed}

of_two : (byte : ℕ) → 16 ≤ byte → byte < 256
    → digit_glyph false (byte / 16) ∷ digit_glyph false (byte % 16) ∷ [] ≡ hex_digits_fixed 2 byte
of_two byte high low = rw (hex_two_digits false byte high low) refl

of_one : (byte : ℕ) → byte < 16
    → digit_glyph false (byte / 16) ∷ digit_glyph false (byte % 16) ∷ [] ≡ hex_digits_fixed 2 byte
of_one byte low =
    let none : byte / 16 ≡ 0 = omega arith in
    let same : byte % 16 ≡ byte = omega arith in rw (hex_one_digit false byte low, none, same) refl

-- a byte in two hexadecimal digits
pub hex_byte : (byte : ℕ) → byte < 256
    → digit_glyph false (byte / 16) ∷ digit_glyph false (byte % 16) ∷ [] ≡ hex_digits_fixed 2 byte
hex_byte byte low = elim (cases_lt byte 16) [ inl small ↦ of_one byte small | inr large ↦ of_two byte large low ]
