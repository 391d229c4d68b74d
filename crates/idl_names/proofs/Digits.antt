-- Digits read from the left: a number that has left its range does not come back.
use Rattle.std.proofs.Common.{◌≡◌, ℕ, suc, ◌+◌, ◌*◌, ◌^◌, ◌<◌, ◌≤◌, List, [], ◌∷◌, Some, None, pos, arith, length, get_or, drop, drop-cons}
use Rattle.std.specs.Str.Parse.{digits_value_after}
use Rattle.std.specs.Char.{digit_value}
use Rattle.std.proofs.Math.Nat.{mul-le-mul_left}
use Rattle.std.proofs.lemmas.Bool.Decides.{nat_tests}
use Rattle.idl_meaning.specs.Constants.{ranged}

pub grows : (radix n : ℕ) (cs : List ℕ) → 1 ≤ radix → n ≤ digits_value_after radix n cs
grows radix n [] least = omega arith
grows radix n (c ∷ cs) least =
    let more : n * 1 ≤ n * radix = mul-le-mul_left n least in
    let rest : n * radix + digit_value c ≤ digits_value_after radix (n * radix + digit_value c) cs = grows radix (n * radix + digit_value c) cs least in
    omega arith

pub too_large : (n : ℕ) → 2 ^ 63 ≤ n → ranged (pos n) ≡ None
too_large n big = grind (arith, nat_tests)

pub small_enough : (n : ℕ) → n < 2 ^ 63 → ranged (pos n) ≡ Some (pos n)
small_enough n small = grind (arith, nat_tests)

-- digits that have written too large a number write no number
pub stays_too_large : (radix n : ℕ) (cs : List ℕ) → 1 ≤ radix → 2 ^ 63 ≤ n → ranged (pos (digits_value_after radix n cs)) ≡ None
stays_too_large radix n cs least big = let more = grows radix n cs least in too_large (digits_value_after radix n cs) (omega arith)

-- the same, one digit before
pub overflowed : (radix value : ℕ) (text : List ℕ) (i : ℕ) → i < length text → 1 ≤ radix → 2 ^ 63 ≤ value * radix + digit_value (get_or text i 0)
    → ranged (pos (digits_value_after radix value (drop i text))) ≡ None
overflowed radix value text i inside least big =
    rw (drop-cons text i 0 inside) (stays_too_large radix (value * radix + digit_value (get_or text i 0)) (drop (suc i) text) least big)
