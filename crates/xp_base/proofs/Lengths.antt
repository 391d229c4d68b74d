-- How many digits a number has.
use Rattle.std.proofs.Common.{◌≡◌, ℕ, zero, suc, ◌+◌, ◌-◌, ◌/◌, ◌%◌, ◌^◌, ◌<◌, ◌≤◌, Bool, true, false, cond, eqb, List, [], ◌∷◌, length, replicate, refl, arith, length-append}
use Rattle.std.specs.Fmt.{digits, digits_onto, digit_glyph}
use Rattle.std.proofs.Math.Nat.{pow-suc, pow-zero, div-lt_iff_lt-mul}
use Rattle.std.proofs.lemmas.List.{length-replicate}
use Rattle.std.proofs.lemmas.Bool.Decides.{nat_tests}
use Rattle.xp_base.specs.Digits.{hex_digits, hex_digits_fixed}

-- the digits of n behind its last, of which `rest` has at most one fewer, and the last
one_more : (b : Bool) (more base front d : ℕ) (after rest : List ℕ) → eqb front 0 ≡ b → front < base ^ more
    → ((fewer : ℕ) → more ≡ suc fewer → length rest ≤ suc fewer + length (d ∷ after)) → length (cond b (d ∷ after) rest) ≤ suc more + length after
one_more true more base front d after rest last small fewer = omega arith
one_more false zero base front d after rest last small fewer =
    let none : front ≡ 0 = omega (arith, pow-zero base) in absurd (grind (arith, nat_tests))
one_more false (suc more) base front d after rest last small fewer =
    let h = fewer more refl in omega arith

-- a number below base ^ (more + 1) has at most more + 1 digits
length_onto : (turns more base n : ℕ) (after : List ℕ) → 2 ≤ base → n < base ^ suc more → length (digits_onto turns base false n after) ≤ suc more + length after
length_onto zero more base n after two small = omega arith
length_onto (suc turns) more base n after two small =
    let front : n / base < base ^ more = (div-lt_iff_lt-mul {k = base} {x = n} {y = base ^ more} (omega arith)).1 (rw pow-suc at small) in
    one_more (eqb (n / base) 0) more base (n / base) (digit_glyph false (n % base)) after (digits_onto turns base false (n / base) (digit_glyph false (n % base) ∷ after)) refl front
    (λ fewer is. length_onto turns fewer base (n / base) (digit_glyph false (n % base) ∷ after) two (rw is at front))

-- hexadecimal digits with zeros in front are as many as were asked for
pub length_fixed : (len value : ℕ) → 1 ≤ len → value < 16 ^ len → length (hex_digits_fixed len value) ≡ len
unfolding digits
length_fixed zero value some small = absurd (omega arith)
length_fixed (suc more) value some small =
    omega (arith, length_onto 64 more 16 value [] (omega arith) small, length-append (replicate (suc more - length (hex_digits value)) 48) (hex_digits value), length-replicate {A = ℕ} (suc more - length (hex_digits value)) 48)
