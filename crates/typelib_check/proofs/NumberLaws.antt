-- The numbers that are read big-endian from a place on are those that stand there.
use Rattle.std.proofs.Common.{◌≡◌, ℕ, ◌+◌, List, ap, arith, drop, refl, ◌∙◌}
use Rattle.std.specs.Prelude.{slice_index}
use Rattle.std.proofs.lemmas.List.{get_or-drop}
use Rattle.byteorder.specs.Endian.{big_number}
use Rattle.lib_model.specs.Denotes.{half_at, word_at}

byte_behind : (x : List ℕ) (p i q : ℕ) → p + i ≡ q → slice_index (drop p x) i ≡ slice_index x q
byte_behind x p i q same = get_or-drop p x i 0 ∙ ap (slice_index x) same

pub half_read : (x : List ℕ) (p : ℕ) → big_number 2 (drop p x) ≡ half_at x p
half_read x p =
    let first : p + 0 ≡ p = omega arith
    in omega (arith, byte_behind x p 0 p first, byte_behind x p 1 (p + 1) refl)

pub word_read : (x : List ℕ) (p : ℕ) → big_number 4 (drop p x) ≡ word_at x p
word_read x p =
    let first : p + 0 ≡ p = omega arith
    in omega
    (arith, byte_behind x p 0 p first, byte_behind x p 1 (p + 1) refl, byte_behind x p 2 (p + 2) refl, byte_behind x p 3 (p + 3) refl)
