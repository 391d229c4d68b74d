-- Which classes a byte can be of at once, and what the tests of a run say.
use Rattle.std.proofs.Common.{◌≡◌, ◌<◌, ℕ, Bool, true, false, not, List, [], ◌∷◌, ◌++◌, length, refl, subst, arith}
use Rattle.std.proofs.lemmas.Bool.Decides.{Decides-eqb, nat_tests}
use Rattle.std.proofs.lemmas.Slice.Eq.{bytes_eq-Decides}
use Rattle.std.specs.Prelude.{◌==◌, nat_le}
use Rattle.std.specs.Str.{bytes_eq}
use Rattle.std.specs.List.{list_all, list_any}
use Rattle.idl_lexer.specs.declared.class.Class.TheVariants.{NameStart, NameByte, Digit, Hexadecimal, Gap}
use Rattle.idl_lexer.specs.Classes.{is_in}
use Rattle.idl_lexer.specs.Parts.{any, some, is_name, keys, is_key, is_word}
use Rattle.idl_lexer.proofs.Basics.{both_true}

-- P holds of each
abbrev pub Each : {A : Type 0} → (A → Type 0) → List A → Type 0
Each P [] = Unit {0}
Each P (x ∷ xs) = P x × Each P xs

-- what holds of each listed byte holds of a byte that is listed
pub listed : (P : ℕ → Type 0) (xs : List ℕ) (c : ℕ) → Each P xs → list_any (λ x. x == c) xs ≡ true → P c
listed P [] c each e = cc
listed P (x ∷ xs) c each e =
    by_test (x == c) refl (listed P xs c each.1) where
      by_test : (t : Bool) → (x == c) ≡ t → (list_any (λ x. x == c) xs ≡ true → P c) → P c
      by_test true q more = subst P ((Decides-eqb x c).0 q) each.0
      by_test false q more = more (rw q at e)

pub listed_test : (p : ℕ → Bool) (xs : List ℕ) (c : ℕ) → list_all p xs ≡ true → list_any (λ x. x == c) xs ≡ true → p c ≡ true
listed_test p [] c all e = cc
listed_test p (x ∷ xs) c all e =
    let a = both_true (p x) (list_all p xs) all in
    by_test (x == c) refl a.0 (listed_test p xs c a.1) where
      by_test : (t : Bool) → (x == c) ≡ t → p x ≡ true → (list_any (λ x. x == c) xs ≡ true → p c ≡ true) → p c ≡ true
      by_test true q here more = subst (λ y. p y ≡ true) ((Decides-eqb x c).0 q) here
      by_test false q here more = more (rw q at e)

pub listed_text : (p : List ℕ → Bool) (xs : List (List ℕ)) (text : List ℕ) → list_all p xs ≡ true → list_any (λ x. bytes_eq x text) xs ≡ true → p text ≡ true
listed_text p [] text all e = cc
listed_text p (x ∷ xs) text all e =
    let a = both_true (p x) (list_all p xs) all in
    by_test (bytes_eq x text) refl a.0 (listed_text p xs text a.1) where
      by_test : (t : Bool) → bytes_eq x text ≡ t → p x ≡ true → (list_any (λ x. bytes_eq x text) xs ≡ true → p text ≡ true) → p text ≡ true
      by_test true q here more = subst (λ y. p y ≡ true) ((bytes_eq-Decides x text).0 q) here
      by_test false q here more = more (rw q at e)

pub gap-unnamed : (b : ℕ) → is_in Gap b ≡ true → is_in NameByte b ≡ false
unfolding is_in
gap-unnamed b h = grind (arith, nat_tests)

pub named-no_gap : (b : ℕ) → is_in NameByte b ≡ true → is_in Gap b ≡ false
unfolding is_in
named-no_gap b h = grind (arith, nat_tests)

pub hexadecimal-named : (b : ℕ) → is_in Hexadecimal b ≡ true → is_in NameByte b ≡ true
unfolding is_in
hexadecimal-named b h = grind (arith, nat_tests)

pub digit-named : (b : ℕ) → is_in Digit b ≡ true → is_in NameByte b ≡ true
unfolding is_in
digit-named b h = grind (arith, nat_tests)

pub digit-no_start : (b : ℕ) → is_in Digit b ≡ true → is_in NameStart b ≡ false
unfolding is_in
digit-no_start b h = grind (arith, nat_tests)

pub hexadecimal-digit : (b : ℕ) → is_in Hexadecimal b ≡ true → is_in NameStart b ≡ false → is_in Digit b ≡ true
unfolding is_in
hexadecimal-digit b h n = grind (arith, nat_tests)

pub some-more : (xs ys : List ℕ) → some xs ≡ true → some (xs ++ ys) ≡ true
unfolding some
some-more [] ys h = cc
some-more (x ∷ xs) ys h = let n : 0 < length (x ∷ (xs ++ ys)) = omega arith in grind (arith, nat_tests)

pub any-more : (xs ys : List ℕ) → any xs ≡ true → any (xs ++ ys) ≡ true
unfolding any
any-more xs ys h = refl

pub key-name : (text : List ℕ) → is_key text ≡ true → is_name text ≡ true
unfolding is_key keys is_name is_in
key-name text h = listed_text is_name keys text refl h

pub word-tests : (text : List ℕ) → is_word text ≡ true → (is_name text ≡ true) × (is_key text ≡ false)
unfolding is_word
word-tests text h = let p = both_true (is_name text) (not (is_key text)) h in (p.0, negated (is_key text) p.1) where
  negated : (b : Bool) → not b ≡ true → b ≡ false
  negated true e = cc
  negated false e = refl

pub tests-word : (text : List ℕ) → is_name text ≡ true → is_key text ≡ false → is_word text ≡ true
unfolding is_word
tests-word text n k = rw (n, k) refl

-- a name has a first byte
pub name-start : (text : List ℕ) → is_name text ≡ true → (c : ℕ) × (cs : List ℕ) × (text ≡ c ∷ cs) × (is_in NameStart c ≡ true)
unfolding is_name
name-start [] h = cc
name-start (c ∷ cs) h = (c, cs, refl, (both_true (is_in NameStart c) (nat_le (length (c ∷ cs)) 255) h).0)

pub some-first : (text : List ℕ) → some text ≡ true → (c : ℕ) × (cs : List ℕ) × (text ≡ c ∷ cs)
unfolding some
some-first [] h = cc
some-first (c ∷ cs) h = (c, cs, refl)
