-- What the readers of numbers in `xp_base` and of IIDs in `uuid` say, as equations.
use Rattle.std.proofs.Common.{◌≡◌, ℕ, ◌^◌, ◌<◌, ◌≤◌, Bool, true, false, cond, ltb, leb, ◌&&◌, List, [], ◌∷◌, length, drop, ℤ, pos, neg_ℤ, Option, Some, None, refl, sym, ap, subst, ◌∙◌, arith}
use Rattle.std.specs.Option.{SomeIff, IfSome, option_map}
use Rattle.std.specs.List.{list_all}
use Rattle.std.specs.Char.{is_digit, digit_value}
use Rattle.std.specs.Prelude.{unsigned_abs}
use Rattle.std.specs.Str.Parse.{AllDigits, digits_value, starts_with_minus}
use Rattle.std.proofs.lemmas.Bool.{eqb-true, ltb-true, lt-ltb, leb-true, le-leb}
use Rattle.std.proofs.lemmas.Option.{cond_some, none-some}
use Rattle.std.proofs.lemmas.Int.Digits.{digits_value-lt}
use Rattle.std.proofs.Math.Nat.{pow-le-pow_right}
use Rattle.uuid.specs.Text.{parsed, parsed_hyphenated}
use Rattle.xp_base.specs.Digits.{IsNatural, IsDecimal, decimal_value}
use Rattle.call_scripts.specs.Reading.{digits_of, decimal_of}
use Rattle.line_words.specs.Words.{Word}
use Rattle.line_words.proofs.Choices.{both, untested}

-- every byte is a digit, as a test and as a fact
all_digits : (radix : ℕ) (w : Word) → list_all (λ c. is_digit c radix) w ≡ true → AllDigits radix w
all_digits radix [] h = tt
all_digits radix (c ∷ w) h =
    let parts = both (is_digit c radix) (list_all (λ c. is_digit c radix) w) h in (ltb-true _ _ parts.0, all_digits radix w parts.1)

pub test_digits : (radix : ℕ) (w : Word) → AllDigits radix w → list_all (λ c. is_digit c radix) w ≡ true
test_digits radix [] h = refl
test_digits radix (c ∷ w) h =
    let digit : is_digit c radix ≡ true = lt-ltb _ _ h.0 in rw (digit, test_digits radix w h.1) refl

abbrev digits_test : ℕ → ℕ → Word → Bool
digits_test radix longest w = ltb 0 (length w) && leb (length w) longest && list_all (λ c. is_digit c radix) w

natural_from : (radix longest : ℕ) (w : Word) → digits_test radix longest w ≡ true → IsNatural radix longest w
natural_from radix longest w h =
    let parts = both (ltb 0 (length w) && leb (length w) longest) (list_all (λ c. is_digit c radix) w) h in
    let bounds = both (ltb 0 (length w)) (leb (length w) longest) parts.0 in
    ((ltb-true _ _ bounds.0, all_digits radix w parts.1), leb-true _ _ bounds.1)

test_from : (radix longest : ℕ) (w : Word) → IsNatural radix longest w → digits_test radix longest w ≡ true
test_from radix longest w h =
    let some : ltb 0 (length w) ≡ true = lt-ltb _ _ h.0.0 in
    let few : leb (length w) longest ≡ true = le-leb _ _ h.1 in rw (some, few, test_digits radix w h.0.1) refl

pub digits_yes : (radix longest : ℕ) (w : Word) → IsNatural radix longest w → digits_of radix longest w ≡ Some (digits_value radix w)
unfolding digits_of
digits_yes radix longest w h = rw (test_from radix longest w h) refl

pub digits_no : (radix longest : ℕ) (w : Word) → (IsNatural radix longest w → ⊥) → digits_of radix longest w ≡ None
unfolding digits_of
digits_no radix longest w h = untested (digits_test radix longest w) (digits_value radix w) (λ t. h (natural_from radix longest w t))

pub digits_read : (radix longest : ℕ) (w : Word) (n : ℕ) → digits_of radix longest w ≡ Some n → IsNatural radix longest w × (n ≡ digits_value radix w)
unfolding digits_of
digits_read radix longest w n h =
    let read = cond_some (digits_test radix longest w) (digits_value radix w) n h in (natural_from radix longest w read.0, sym read.1)

pub digits_bound : (radix longest : ℕ) (w : Word) (n : ℕ) → 0 < radix → digits_of radix longest w ≡ Some n → n < radix ^ longest
digits_bound radix longest w n some h =
    let read = digits_read radix longest w n h in
    let longer : radix ^ length w ≤ radix ^ longest = pow-le-pow_right some read.0.1 in
    omega (arith, read.1, digits_value-lt radix w read.0.0.1)

pub digits_within : (radix longest : ℕ) (w : Word) (r : Option ℕ) → 0 < radix → r ≡ digits_of radix longest w → IfSome r (λ n. n < radix ^ longest)
digits_within radix longest w None some h = tt
digits_within radix longest w (Some n) some h = digits_bound radix longest w n some (sym h)

-- what a reader of longer texts says of one that is short enough
pub digits_from : (radix most longest : ℕ) (w : Word) (r : Option ℕ) → SomeIff r (IsNatural radix most w) (digits_value radix w) → length w ≤ longest → longest ≤ most → r ≡ digits_of radix longest w
digits_from radix most longest w None h short few = sym (digits_no radix longest w (λ n. h (n.0, omega arith)))
digits_from radix most longest w (Some n) h short few = ap Some h.1 ∙ sym (digits_yes radix longest w (h.0.0, short))

pub digits_too_long : (radix longest : ℕ) (w : Word) → longest < length w → digits_of radix longest w ≡ None
digits_too_long radix longest w long = digits_no radix longest w (λ n. absurd (omega (arith, n.1)))

-- an IID is what `uuid` reads of 36 bytes
pub parsed_is : (w : Word) → length w ≡ 36 → parsed w ≡ parsed_hyphenated w
parsed_is w is = rw is refl

pub no_iid : (w : Word) → length w ≡ 36 → (((u : List ℕ) × (parsed w ≡ Some u)) → ⊥) → parsed_hyphenated w ≡ None
no_iid w is none = nothing (parsed_hyphenated w) (λ h. none (h.0, parsed_is w is ∙ h.1))
  where
    nothing : (o : Option (List ℕ)) → (((u : List ℕ) × (o ≡ Some u)) → ⊥) → o ≡ None
    nothing None h = refl
    nothing (Some u) h = absurd (h (u, refl))

-- a `-` is no digit
pub minus_no_digits : (radix longest : ℕ) (w : Word) → radix ≤ 16 → starts_with_minus w ≡ true → digits_of radix longest w ≡ None
minus_no_digits radix longest [] low h = digits_no radix longest [] (λ n. absurd (omega (arith, n.0.0)))
minus_no_digits radix longest (c ∷ w) low h =
    let minus : c ≡ 45 = eqb-true c 45 h in
    digits_no radix longest (c ∷ w) (λ n. let digit : digit_value 45 < radix = subst (λ b. digit_value b < radix) minus n.0.1.0 in absurd (omega arith))

-- what `dec_read` says of a word, in the words of this crate
pub decimal_from : (w : Word) (r : Option ℤ) → SomeIff r (IsDecimal w) (decimal_value w) → r ≡ decimal_of w
unfolding decimal_of
decimal_from w r h = by_sign (starts_with_minus w) r h
  where
    by_sign : (b : Bool) (r : Option ℤ)
        → SomeIff r (IsNatural 10 20 (cond b (drop 1 w) w)) (cond b (neg_ℤ (pos (digits_value 10 (drop 1 w)))) (pos (digits_value 10 w)))
        → r ≡ cond b (option_map (λ n. neg_ℤ (pos n)) (digits_of 10 20 (drop 1 w))) (option_map pos (digits_of 10 20 w))
    by_sign true None h = rw (digits_no 10 20 (drop 1 w) h) refl
    by_sign true (Some n) h = rw (digits_yes 10 20 (drop 1 w) h.0) (ap Some h.1)
    by_sign false None h = rw (digits_no 10 20 w h) refl
    by_sign false (Some n) h = rw (digits_yes 10 20 w h.0) (ap Some h.1)

-- the same of a shorter limit that the text keeps
digits_longer : (radix most longest : ℕ) (w : Word) (o : Option ℕ) → digits_of radix most w ≡ o → length w ≤ longest → longest ≤ most → digits_of radix longest w ≡ o
digits_longer radix most longest w None h short few =
    digits_no radix longest w (λ n. none-some _ (sym h ∙ digits_yes radix most w (n.0, omega (arith, n.1))))
digits_longer radix most longest w (Some n) h short few =
    let read = digits_read radix most w n h in digits_yes radix longest w (read.0.0, short) ∙ ap Some (sym read.1)

-- a decimal number without a sign is its digits
pub plain_digits : (longest : ℕ) (w : Word) → starts_with_minus w ≡ false → length w ≤ longest → longest ≤ 20 → option_map unsigned_abs (decimal_of w) ≡ digits_of 10 longest w
unfolding decimal_of
plain_digits longest w plain short few =
    rw plain (same (digits_of 10 20 w) ∙ sym (digits_longer 10 20 longest w (digits_of 10 20 w) refl short few))
  where
    same : (o : Option ℕ) → option_map unsigned_abs (option_map pos o) ≡ o
    same None = refl
    same (Some n) = refl
