-- Digits read from the left: what each byte adds, and that the number fits.
use Rattle.std.proofs.Common.{◌≡◌, ℕ, zero, suc, ◌+◌, ◌*◌, ◌^◌, ◌<◌, ◌≤◌, List, [], ◌∷◌, length, get_or, take, arith, add-one, refl}
use Rattle.std.specs.Char.{digit_value}
use Rattle.std.specs.Str.Parse.{AllDigits, digits_value}
use Rattle.std.proofs.Math.Dec.{lit≤}
use Rattle.std.proofs.Math.Nat.{pow-le-pow_left, pow-le-pow_right, pow-suc, mul-le-mul_right}
use Rattle.std.proofs.lemmas.Int.Digits.{digits_value_more, digits_more}

-- each byte of digits is one
pub all_digits_at : (radix : ℕ) (ds : List ℕ) (i : ℕ) → AllDigits radix ds → i < length ds → digit_value (get_or ds i 0) < radix
all_digits_at radix [] i h lt = absurd (omega arith)
all_digits_at radix (d ∷ ds) zero h lt = h.0
all_digits_at radix (d ∷ ds) (suc i) h lt = all_digits_at radix ds i h.1 (omega arith)

-- the number with one more digit stays below the next power
pub next_below : (radix i value digit : ℕ) → value < radix ^ i → digit < radix → value * radix + digit < radix ^ (i + 1)
next_below radix i value digit small low =
    rw (add-one, pow-suc radix i) (let step : (value + 1) * radix ≤ radix ^ i * radix = mul-le-mul_right radix (omega arith) in omega arith)

-- digits in a radix up to 16, of which there are at most 20, write a number of 80 bits
pub power_fits : (radix i : ℕ) → radix ≤ 16 → i ≤ 20 → radix ^ i ≤ 2 ^ 80
power_fits radix i low few =
    let wider : radix ^ i ≤ 16 ^ i = pow-le-pow_left low i in
    let longer : 16 ^ i ≤ 16 ^ 20 = pow-le-pow_right (lit≤ tt) few in
    let fits : 16 ^ 20 ≤ 2 ^ 80 = lit≤ tt in omega arith

-- what is known of the digits before place i, once the digit there is read
pub one_digit_more : (radix value digit i : ℕ) (text : List ℕ) → i < length text → value ≡ digits_value radix (take i text) → AllDigits radix (take i text) → value < radix ^ i
    → digit ≡ digit_value (get_or text i 0) → digit < radix
    → (value * radix + digit ≡ digits_value radix (take (i + 1) text)) × AllDigits radix (take (i + 1) text) × (value * radix + digit < radix ^ (i + 1))
one_digit_more radix value digit i text inside is all small here low = (
  rw (digits_value_more radix text i inside, ← is, ← here) refl,
  digits_more radix text i inside all (rw here at low),
  next_below radix i value digit small low,
)

-- and so it fits 128 bits
pub next_fits : (radix i value digit : ℕ) → radix ≤ 16 → i < 20 → value < radix ^ i → digit < radix → value * radix + digit < 2 ^ 128
next_fits radix i value digit low few small digits =
    let fits : 2 ^ 80 ≤ 2 ^ 128 = lit≤ tt in
    omega (arith, next_below radix i value digit small digits, power_fits radix (i + 1) low (omega arith))
