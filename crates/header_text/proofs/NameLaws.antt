-- The names of a header: words of the language, with what a header puts before them, are names.
use Rattle.std.proofs.Common.{◌≡◌, ℕ, zero, suc, ◌+◌, ◌<◌, ◌≤◌, Bool, true, false, eqb, ltb, leb, ◌&&◌, [], ◌∷◌, ◌++◌, length, get_or, refl, sym, ap, subst, ◌∙◌, arith, length-append}
use Rattle.std.specs.Prelude.{codes}
use Rattle.std.specs.Char.{is_ascii_digit, to_ascii_uppercase}
use Rattle.std.specs.Fmt.{decimal, digits}
use Rattle.std.specs.List.{list_all}
use Rattle.std.proofs.lemmas.Bool.{false≢true, eqb-true, eq-eqb, leb-true, le-leb, lt-ltb}
use Rattle.std.proofs.lemmas.List.{append-nil}
use Rattle.std.proofs.lemmas.List.Folds.{list_all-append}
use Rattle.idl_lexer.specs.declared.class.Class.TheVariants.{NameStart, NameByte}
use Rattle.idl_lexer.specs.Classes.{is_in}
use Rattle.idl_lexer.specs.Parts.{is_name as is_lexed_name}
use Rattle.idl_lexer.specs.Spelling.{IsWord}
use Rattle.idl_lexer.proofs.ByteLaws.{word-tests}
use Rattle.idl_grammar.specs.Trees.{IsName as IsWordName}
use Rattle.call_model.specs.declared.prototypes.MemberKind.{MemberKind}
use Rattle.call_model.specs.declared.prototypes.MemberKind.TheVariants as kind
use Rattle.line_words.specs.Words.{Word}
use Rattle.line_words.proofs.Choices.{both}
use Rattle.header_model.specs.Words.{IsName, is_name_byte}
use Rattle.header_text.specs.Header.{capital, member_name, placed_name}

-- what makes a word a name, of at most so many bytes
pub record IsNameOf (most : ℕ) (w : Word) : Type 0 where
  pub some : 0 < length w
  pub short : length w ≤ most
  pub bytes : list_all is_name_byte w ≡ true
  pub start : is_ascii_digit (get_or w 0 0) ≡ false

pub name-made : (most : ℕ) (w : Word) → most ≤ 300 → IsNameOf most w → IsName w
name-made most w few n =
    let some : ltb 0 (length w) ≡ true = lt-ltb 0 (length w) n.some in
    let short : leb (length w) 300 ≡ true = le-leb (length w) 300 (omega (arith, n.short)) in rw (some, short, n.bytes, n.start) refl

-- ---- words of the language

letter-start : (c : ℕ) → is_in NameStart c ≡ true → is_ascii_digit c ≡ false
unfolding is_in
letter-start c h = grind (arith, h)

name-byte : (c : ℕ) → is_in NameByte c ≡ true → is_name_byte c ≡ true
unfolding is_in
name-byte c h = grind (arith, h)

name-bytes : (w : Word) → list_all (is_in NameByte) w ≡ true → list_all is_name_byte w ≡ true
name-bytes [] h = refl
name-bytes (c ∷ w) h =
    let parts = both (is_in NameByte c) (list_all (is_in NameByte) w) h in rw (name-byte c parts.0, name-bytes w parts.1) refl

starts : (w : Word) → is_lexed_name w ≡ true → is_ascii_digit (get_or w 0 0) ≡ false
unfolding is_lexed_name
starts [] h = absurd (false≢true h)
starts (c ∷ w) h = letter-start c (both (is_in NameStart c) (leb (length (c ∷ w)) 255) h).0

pub word-name : (w : Word) → IsWordName w → IsNameOf 255 w
word-name w is =
    let word : IsWord w = is.word in
    let same : w ≡ word.0 = word.2 ∙ ap (λ xs. word.0 ++ xs) word.5 ∙ append-nil word.0 in
    record {
      some = is.text.present;
      short = is.text.short;
      bytes = subst (λ v. list_all is_name_byte v ≡ true) (sym same) (name-bytes word.0 word.3);
      start = starts w (subst (λ v. is_lexed_name v ≡ true) (sym same) (word-tests word.0 word.4).0);
    }

-- ---- letters in upper case, and what stands before a name

upper-byte : (b : ℕ) → is_name_byte b ≡ true → is_name_byte (to_ascii_uppercase b) ≡ true
upper-byte b h = grind (arith, h)

upper-start : (b : ℕ) → is_ascii_digit b ≡ false → is_ascii_digit (to_ascii_uppercase b) ≡ false
upper-start b h = grind (arith, h)

pub capital-name : (most : ℕ) (w : Word) → IsNameOf most w → IsNameOf most (capital w)
capital-name most [] n = absurd (omega (arith, n.some))
capital-name most (b ∷ w) n =
    let parts = both (is_name_byte b) (list_all is_name_byte w) n.bytes in
    record {
      some = n.some;
      short = n.short;
      bytes = rw (upper-byte b parts.0, parts.1) refl;
      start = upper-start b n.start;
    }

pub prefix-name : (front most : ℕ) (p w : Word) → IsNameOf front p → length w ≤ most → list_all is_name_byte w ≡ true → IsNameOf (front + most) (p ++ w)
prefix-name front most [] w n short bytes = absurd (omega (arith, n.some))
prefix-name front most (c ∷ p) w n short bytes = record {
  some = omega arith;
  short = omega (arith, n.short, length-append p w);
  bytes = list_all-append is_name_byte (c ∷ p) w ∙ rw (n.bytes, bytes) refl;
  start = n.start;
}

pub member-name : (k : MemberKind) (w : Word) → IsNameOf 255 w → IsNameOf 258 (member_name k w)
member-name kind.Plain w n =
    let c = capital-name 255 w n in record { some = c.some; short = omega (arith, c.short); bytes = c.bytes; start = c.start }
member-name kind.Get w n =
    let c = capital-name 255 w n in
    prefix-name 3 255 (codes "Get") (capital w) (record { some = omega arith; short = omega arith; bytes = refl; start = refl }) c.short c.bytes
member-name kind.Set w n =
    let c = capital-name 255 w n in
    prefix-name 3 255 (codes "Set") (capital w) (record { some = omega arith; short = omega arith; bytes = refl; start = refl }) c.short c.bytes

-- ---- small numbers

-- the test holds of each number below
abbrev holds_below : (ℕ → Bool) → ℕ → Bool
holds_below test zero = true
holds_below test (suc n) = test n && holds_below test n

ne_from : (i n : ℕ) → eqb i n ≡ false → i ≡ n → ⊥
ne_from i n e is = absurd (false≢true (sym e ∙ eq-eqb i n is))

at-number : (test : ℕ → Bool) (n i : ℕ) → holds_below test n ≡ true → i < n → test i ≡ true
at-number test zero i h below = absurd (omega (arith, below))
at-number test (suc n) i h below = go (eqb i n) refl (at-number test n i (both (test n) (holds_below test n) h).1)
  where
    go : (t : Bool) → eqb i n ≡ t → (i < n → test i ≡ true) → test i ≡ true
    go true e later = subst (λ j. test j ≡ true) (sym (eqb-true i n e)) (both (test n) (holds_below test n) h).0
    go false e later = later (grind (arith, below, ne_from i n e))

is_short_number : ℕ → Bool
is_short_number k = list_all is_ascii_digit (decimal k) && leb (length (decimal k)) 3

short-numbers : holds_below is_short_number 260 ≡ true
unfolding digits is_short_number
short-numbers = refl

-- the digits of a number below 260
pub record AreDigits (k : ℕ) : Type 0 where
  pub digits : list_all is_ascii_digit (decimal k) ≡ true
  pub short : length (decimal k) ≤ 3

pub small-digits : (k : ℕ) → k < 260 → AreDigits k
unfolding is_short_number
small-digits k below =
    let tests = both (list_all is_ascii_digit (decimal k)) (leb (length (decimal k)) 3) (at-number is_short_number 260 k short-numbers below) in
    record { digits = tests.0; short = leb-true (length (decimal k)) 3 tests.1 }

digit-byte : (b : ℕ) → is_ascii_digit b ≡ true → is_name_byte b ≡ true
digit-byte b h = grind (arith, h)

digit-bytes : (w : Word) → list_all is_ascii_digit w ≡ true → list_all is_name_byte w ≡ true
digit-bytes [] h = refl
digit-bytes (b ∷ w) h = let parts = both (is_ascii_digit b) (list_all is_ascii_digit w) h in rw (digit-byte b parts.0, digit-bytes w parts.1) refl

letter-a : IsNameOf 1 (codes "a")
letter-a = record { some = omega arith; short = omega arith; bytes = refl; start = refl }

-- an argument's name: `a`, its position, `_` and a name
pub placed-name : (k : ℕ) (w : Word) → k < 260 → length w ≤ 255 → list_all is_name_byte w ≡ true → IsName (placed_name k w)
placed-name k w below short bytes =
    let d = small-digits k below in
    let one = prefix-name 1 3 (codes "a") (decimal k) letter-a d.short (digit-bytes (decimal k) d.digits) in
    let two = prefix-name 4 1 (codes "a" ++ decimal k) (codes "_") one (omega arith) refl in
    name-made 260 (placed_name k w) (omega arith) (prefix-name 5 255 (codes "a" ++ decimal k ++ codes "_") w two short bytes)
