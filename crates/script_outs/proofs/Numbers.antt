-- Bytes as a number.
use Rattle.std.proofs.Common.{◌≡◌, ℕ, ◌+◌, ◌*◌, List, [], ◌∷◌, length, refl, ap, ◌∙◌}
use Rattle.byteorder.specs.Endian.{little_number}
use Rattle.byteorder.specs.Numbers.{little_from-cons}
use Rattle.xp_base.specs.LittleEndian.{number_of}

pub number_is : (bytes : List ℕ) → little_number (length bytes) bytes ≡ number_of bytes
number_is [] = refl
number_is (b ∷ bytes) =
    ap (λ n. b + 256 * n) (little_from-cons 0 (length bytes) b bytes ∙ number_is bytes)
