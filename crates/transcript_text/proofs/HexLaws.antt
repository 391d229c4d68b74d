-- The kit's hexadecimal text of bytes is two digits for each.
use Rattle.std.proofs.Common.{◌≡◌, ℕ, ◌/◌, ◌%◌, ◌<◌, ◌==◌, suc, true, false, List, [], ◌∷◌, get_or, slice_index, refl, sym, arith}
use Rattle.std.proofs.lemmas.Bool.{agree_below_at, eqb-true}
use Rattle.std.specs.Fmt.{digit_glyph}
use Rattle.std.specs.List.{flat_map}
use Rattle.hex.specs.Hex.{encode_with, lower_digits}
use Rattle.xp_base.specs.Digits.{hex_digits_fixed}
use Rattle.xp_base.proofs.ByteDigits.{hex_byte}

-- each is a byte
abbrev pub AreBytes : List ℕ → Type 0
AreBytes bytes = (k : ℕ) → get_or bytes k 0 < 256

digit : (d : ℕ) → d < 16 → slice_index lower_digits d ≡ digit_glyph false d
digit d low =
    eqb-true (slice_index lower_digits d) (digit_glyph false d)
    (agree_below_at (λ n. slice_index lower_digits n == digit_glyph false n) (λ n. true) 16 d refl low)

pub two_digits_each : (bytes : List ℕ) → AreBytes bytes
    → encode_with lower_digits bytes ≡ flat_map (hex_digits_fixed 2) bytes
unfolding encode_with
two_digits_each [] are = refl
two_digits_each (b ∷ bytes) are =
    let fits : b < 256 = are 0 in
    rw (
      digit (b / 16) (omega (arith, fits)),
      digit (b % 16) (omega arith),
      sym (hex_byte b fits),
      two_digits_each bytes (λ k. are (suc k)),
    ) refl
