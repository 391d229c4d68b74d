-- Which bytes a word has not, so that a mark in a line is the first of its kind.
use Rattle.std.proofs.Common.{◌≡◌, ℕ, ◌<◌, ◌≤◌, Bool, true, false, not, cond, eqb, ltb, leb, get_or, ◌&&◌, [], ◌∷◌, length, ℤ, None, refl, sym, subst, inl, inr, arith}
use Rattle.std.specs.Prelude.{◌⊎◌, codes}
use Rattle.std.specs.List.{list_all}
use Rattle.std.specs.Char.{is_digit, is_ascii_digit}
use Rattle.std.proofs.Common.{◌||◌}
use Rattle.std.specs.Str.{bytes_eq}
use Rattle.std.proofs.lemmas.Bool.{eqb-true, ne_eqb}
use Rattle.std.proofs.lemmas.Str.Parse.{digit_from_value}
use Rattle.xp_base.specs.Digits.{IsNatural}
use Rattle.line_words.specs.Words.{Word, after}
use Rattle.line_words.proofs.Choices.{both}
use Rattle.line_words.proofs.Marks.{all_lack, lacks}
use Rattle.line_words.proofs.Prefixes.{after_other}
use Rattle.call_scripts.specs.Lines.{IsValue, IsTerm}
use Rattle.call_scripts.specs.Spellings.{is_name, is_name_byte, is_register, is_lower, IsNumber, IsDigits}
use Rattle.call_scripts.specs.declared.script.Term.{Term}
use Rattle.call_scripts.specs.declared.script.Term.TheVariants as terms
use Rattle.call_scripts.specs.declared.script.ValueWord.{ValueWord}
use Rattle.call_scripts.specs.declared.script.ValueWord.TheVariants as values
use Rattle.call_scripts.proofs.Numerals.{test_digits}

pub name_lacks : (mark : ℕ) (w : Word) → is_name_byte mark ≡ false → is_name w ≡ true → lacks mark w ≡ true
name_lacks mark w free h =
    let sized : Bool = ltb 0 (length w) && leb (length w) 255 in
    let parts = both (sized && list_all is_name_byte w) (not (is_ascii_digit (get_or w 0 0))) h in
    all_lack is_name_byte mark w free (both sized (list_all is_name_byte w) parts.0).1

pub register_lacks : (mark : ℕ) (w : Word) → (is_lower mark || is_ascii_digit mark) ≡ false → is_register w ≡ true → lacks mark w ≡ true
register_lacks mark w free h = all_lack (λ b. is_lower b || is_ascii_digit b) mark w free (both (ltb 0 (length w) && is_lower (get_or w 0 0)) (list_all (λ b. is_lower b || is_ascii_digit b) w) h).1

pub digits_lack : (radix longest mark : ℕ) (w : Word) (n : ℕ) → is_digit mark radix ≡ false → IsDigits radix longest w n → lacks mark w ≡ true
digits_lack radix longest mark w n free h = all_lack (λ c. is_digit c radix) mark w free (test_digits radix w h.0.0.1)

-- a mark that no number has
pub record IsNoNumberByte (mark : ℕ) : Type 0 where
  pub sign : lacks mark (codes "-0x") ≡ true
  pub decimal : is_digit mark 10 ≡ false
  pub hexadecimal : is_digit mark 16 ≡ false

pub number_lacks : (mark : ℕ) (w : Word) (n : ℤ) → IsNoNumberByte mark → IsNumber w n → lacks mark w ≡ true
number_lacks mark w n free (inr h) =
    let signs = both (not (eqb 45 mark)) (not (eqb 48 mark) && (not (eqb 120 mark) && true)) free.sign in
    let zero_x = both (not (eqb 48 mark)) (not (eqb 120 mark) && true) signs.1 in
    let x = both (not (eqb 120 mark)) true zero_x.1 in
    rw h.1 (rw (zero_x.0, x.0, all_lack (λ c. is_digit c 16) mark h.0 free.hexadecimal (test_digits 16 h.0 h.2.0.1)) refl)
number_lacks mark [] n free (inl h) = refl
number_lacks mark (c ∷ w) n free (inl h) = by_sign (eqb c 45) refl h.0
  where
    by_sign : (t : Bool) → eqb c 45 ≡ t → IsNatural 10 20 (cond t w (c ∷ w)) → lacks mark (c ∷ w) ≡ true
    by_sign true e d =
        let minus : not (eqb 45 mark) ≡ true = (both (not (eqb 45 mark)) (not (eqb 48 mark) && (not (eqb 120 mark) && true)) free.sign).0 in
        rw (eqb-true c 45 e, minus, all_lack (λ b. is_digit b 10) mark w free.decimal (test_digits 10 w d.0.1)) refl
    by_sign false e d = all_lack (λ b. is_digit b 10) mark (c ∷ w) free.decimal (test_digits 10 (c ∷ w) d.0.1)

-- a number begins with `-` or a digit
abbrev pub BeginsNumber : Word → Type 0
BeginsNumber [] = ⊥
BeginsNumber (c ∷ w) = (45 ≤ c) × (c ≤ 57)

pub begins_number : (w : Word) (n : ℤ) → IsNumber w n → BeginsNumber w
begins_number w n (inr h) = subst BeginsNumber (sym h.1) (omega arith, omega arith)
begins_number [] n (inl h) = let some : 0 < 0 = h.0.0.0 in absurd (omega arith)
begins_number (c ∷ w) n (inl h) = by_sign (eqb c 45) refl h.0
  where
    by_sign : (t : Bool) → eqb c 45 ≡ t → IsNatural 10 20 (cond t w (c ∷ w)) → (45 ≤ c) × (c ≤ 57)
    by_sign true e d = let is : c ≡ 45 = eqb-true c 45 e in (omega arith, omega arith)
    by_sign false e d = let range = digit_from_value c d.0.1.0 in (omega (arith, range), omega (arith, range))

-- and so with no other mark
pub number_after : (p : ℕ) (prefix w : Word) (n : ℤ) → (p < 45) ⊎ (57 < p) → IsNumber w n → after (p ∷ prefix) w ≡ None
number_after p prefix w n far h = by_word w (begins_number w n h)
  where
    by_word : (w : Word) → BeginsNumber w → after (p ∷ prefix) w ≡ None
    by_word [] b = absurd b
    by_word (c ∷ w) b = after_other p c prefix w (ne_eqb c p (λ e. grind arith))

pub number_other : (p : ℕ) (rest w : Word) (n : ℤ) → (p < 45) ⊎ (57 < p) → IsNumber w n → bytes_eq w (p ∷ rest) ≡ false
number_other p rest w n far h = by_word w (begins_number w n h)
  where
    by_word : (w : Word) → BeginsNumber w → bytes_eq w (p ∷ rest) ≡ false
    by_word [] b = absurd b
    by_word (c ∷ w) b = let other : eqb c p ≡ false = ne_eqb c p (λ e. grind arith) in rw other refl

-- a value has no `>`, some bytes, and is no `_`
pub value_lacks : (w : Word) (v : ValueWord) → IsValue w v → lacks 62 w ≡ true
value_lacks w (values.Number n) (inl h) = number_lacks 62 w n (record { sign = refl; decimal = refl; hexadecimal = refl }) h
value_lacks w (values.Number n) (inr h) = rw h.0 refl
value_lacks w (values.Address name) h = rw h.0 (name_lacks 62 name refl h.1)
value_lacks w (values.Variable name) h = rw h.0 (name_lacks 62 name refl h.1)

number_some : (w : Word) → BeginsNumber w → 0 < length w
number_some [] b = absurd b
number_some (c ∷ w) b = omega arith

pub value_some : (w : Word) (v : ValueWord) → IsValue w v → 0 < length w
value_some w (values.Number n) (inl h) = number_some w (begins_number w n h)
value_some w (values.Number n) (inr h) = rw h.0 (omega arith)
value_some w (values.Address name) h = rw h.0 (omega arith)
value_some w (values.Variable name) h = rw h.0 (omega arith)

pub value_other : (w : Word) (v : ValueWord) → IsValue w v → bytes_eq w (codes "_") ≡ false
value_other w (values.Number n) (inl h) = number_other 95 [] w n (inr (omega arith)) h
value_other w (values.Number n) (inr h) = rw h.0 refl
value_other w (values.Address name) h = rw h.0 refl
value_other w (values.Variable name) h = rw h.0 refl

-- a term has no `+`
pub term_lacks : (w : Word) (t : Term) → IsTerm w t → lacks 43 w ≡ true
term_lacks w (terms.Number n) h = number_lacks 43 w n (record { sign = refl; decimal = refl; hexadecimal = refl }) h
term_lacks w (terms.Address name) h = rw h.0 (name_lacks 43 name refl h.1)
term_lacks w (terms.Arg at) h = rw h.1 (digits_lack 10 3 43 h.0 at refl h.2)
term_lacks w (terms.InCell at) h = rw h.1 (digits_lack 10 3 43 h.0 at refl h.2)
