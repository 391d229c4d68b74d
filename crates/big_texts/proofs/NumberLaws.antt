-- A word of decimal digits is read as the number that they write.
use Rattle.std.proofs.Common.{◌≡◌, ℕ, ◌≤◌, Bool, true, false, ◌&&◌, ◌==◌, List, [], ◌∷◌, length, refl, subst, arith}
use Rattle.std.specs.Char.{is_digit, digit_value}
use Rattle.std.specs.List.{list_all}
use Rattle.std.specs.Str.Parse.{AllDigits, starts_with_minus}
use Rattle.std.proofs.lemmas.Bool.{and_parts, eqb-true, ltb-true}
use Rattle.xp_base.specs.Digits.{IsDecimal}
use Rattle.big_texts.specs.Numbers.{number_of}

abbrev pub AreDigits : List ℕ → Type 0
AreDigits word = list_all (λ b. is_digit b 10) word ≡ true

all_digits : (word : List ℕ) → AreDigits word → AllDigits 10 word
all_digits [] are = tt
all_digits (b ∷ word) are =
    let parts = and_parts (is_digit b 10) (list_all (λ c. is_digit c 10) word) are in
    (ltb-true (digit_value b) 10 parts.0, all_digits word parts.1)

no_minus : (word : List ℕ) → AreDigits word → starts_with_minus word ≡ false
no_minus [] are = refl
no_minus (b ∷ word) are = of_test (b == 45) refl where
  of_test : (t : Bool) → (b == 45) ≡ t → (b == 45) ≡ false
  of_test false is = is
  of_test true is =
      let minus : b ≡ 45 = eqb-true b 45 is in
      let wrong : false ≡ true =
      subst (λ (x : ℕ). (is_digit x 10 && list_all (λ c. is_digit c 10) word) ≡ true) minus are in
      absurd cc

-- a word of digits that has no reading is the empty one
pub none_read : (word : List ℕ) → length word ≤ 20 → AreDigits word → (IsDecimal word → ⊥)
    → 0 ≡ number_of word
none_read [] short are none = refl
none_read (b ∷ word) short are none =
    let digits = all_digits (b ∷ word) are in
    absurd (none (rw (no_minus (b ∷ word) are) ((omega arith, digits), short)))
