-- The kit's `uuid` reads the spelling of an identifier.
use Rattle.std.proofs.Common.{◌≡◌, ◌<◌, ℕ, zero, suc, Bool, true, false, cond, ◌&&◌, List, [], ◌∷◌, ◌++◌, length, Option, Some, None, refl, sym, ◌∙◌, ap, subst, append-nil, arith, codes}
use Rattle.std.specs.List.{list_all}
use Rattle.std.proofs.lemmas.Bool.Decides.{nat_tests}
use Rattle.std.proofs.lemmas.List.Folds.{list_all-append}
use Rattle.uuid.specs.Text.{parsed, by_index, byte_of_digits, is_hex_digit}
use Rattle.idl_lexer.specs.declared.class.Class.TheVariants.{Hexadecimal}
use Rattle.idl_lexer.specs.Classes.{is_in}
use Rattle.idl_lexer.specs.Parts.{IsMadeOf}
use Rattle.idl_lexer.specs.Spelling.{iid}
use Rattle.idl_lexer.proofs.KindLaws.{all-weaker}
use Rattle.idl_grammar.specs.Trees.{IsIid}

-- ---- what holds of lists of a length, by its elements one by one

abbrev Elements : ℕ → (List ℕ → Type 0) → Type 0
Elements zero P = P []
Elements (suc n) P = (x : ℕ) → Elements n (λ xs. P (x ∷ xs))

by_elements : (n : ℕ) (P : List ℕ → Type 0) → Elements n P → (xs : List ℕ) → length xs ≡ n → P xs
by_elements zero P f [] e = f
by_elements zero P f (x ∷ xs) e = absurd (omega arith)
by_elements (suc n) P f [] e = absurd (omega arith)
by_elements (suc n) P f (x ∷ xs) e = by_elements n (λ ys. P (x ∷ ys)) (f x) xs (omega arith)

-- ---- five groups of digits

text_of : (a b c d e : List ℕ) → List ℕ
text_of a b c d e = a ++ (45 ∷ (b ++ (45 ∷ (c ++ (45 ∷ (d ++ (45 ∷ e)))))))

digits_in : (a b c d e : List ℕ) → List ℕ
digits_in a b c d e = a ++ (b ++ (c ++ (d ++ e)))

-- the text of the groups is read by its digits
abbrev IsReadByDigits : (a b c d e : List ℕ) → Type 0
IsReadByDigits a b c d e =
    parsed (text_of a b c d e) ≡ cond (list_all is_hex_digit (digits_in a b c d e)) (Some (by_index 16 (byte_of_digits (digits_in a b c d e)))) None

by_digits : (a b c d e : List ℕ) → length a ≡ 8 → length b ≡ 4 → length c ≡ 4 → length d ≡ 4 → length e ≡ 12 → IsReadByDigits a b c d e
unfolding text_of digits_in by_index
by_digits a b c d e la lb lc ld le =
    by_elements 8 (λ a. IsReadByDigits a b c d e) (λ a0 a1 a2 a3 a4 a5 a6 a7.
    by_elements 4 (λ b. IsReadByDigits (a0 ∷ a1 ∷ a2 ∷ a3 ∷ a4 ∷ a5 ∷ a6 ∷ a7 ∷ []) b c d e) (λ b0 b1 b2 b3.
    by_elements 4 (λ c. IsReadByDigits (a0 ∷ a1 ∷ a2 ∷ a3 ∷ a4 ∷ a5 ∷ a6 ∷ a7 ∷ []) (b0 ∷ b1 ∷ b2 ∷ b3 ∷ []) c d e) (λ c0 c1 c2 c3.
    by_elements 4 (λ d. IsReadByDigits (a0 ∷ a1 ∷ a2 ∷ a3 ∷ a4 ∷ a5 ∷ a6 ∷ a7 ∷ []) (b0 ∷ b1 ∷ b2 ∷ b3 ∷ []) (c0 ∷ c1 ∷ c2 ∷ c3 ∷ []) d e) (λ d0 d1 d2 d3.
    by_elements 12 (λ e. IsReadByDigits (a0 ∷ a1 ∷ a2 ∷ a3 ∷ a4 ∷ a5 ∷ a6 ∷ a7 ∷ []) (b0 ∷ b1 ∷ b2 ∷ b3 ∷ []) (c0 ∷ c1 ∷ c2 ∷ c3 ∷ []) (d0 ∷ d1 ∷ d2 ∷ d3 ∷ []) e)
    (λ e0 e1 e2 e3 e4 e5 e6 e7 e8 e9 ea eb. refl) e le) d ld) c lc) b lb) a la

hexadecimal-digit : (c : ℕ) → is_in Hexadecimal c ≡ true → is_hex_digit c ≡ true
unfolding is_in
hexadecimal-digit c h = grind (arith, nat_tests)

all-digits : (xs : List ℕ) → list_all (is_in Hexadecimal) xs ≡ true → list_all is_hex_digit xs ≡ true
all-digits xs h = all-weaker (is_in Hexadecimal) is_hex_digit xs hexadecimal-digit h

appended : (xs ys : List ℕ) → list_all is_hex_digit xs ≡ true → list_all is_hex_digit ys ≡ true → list_all is_hex_digit (xs ++ ys) ≡ true
appended xs ys h i = list_all-append is_hex_digit xs ys ∙ rw (h, i) refl

groups-read : (a b c d e : List ℕ) → IsReadByDigits a b c d e → list_all is_hex_digit (digits_in a b c d e) ≡ true → (bytes : List ℕ) × (parsed (text_of a b c d e) ≡ Some bytes)
groups-read a b c d e h all = (by_index 16 (byte_of_digits (digits_in a b c d e)), h ∙ rw all refl)

pub iid-read : (text : List ℕ) → IsMadeOf iid text → IsIid text
unfolding iid text_of digits_in
iid-read text m =
    let h1 = m.5 in
    let b = h1.2 in
    let h2 = b.5 in
    let c = h2.2 in
    let h3 = c.5 in
    let d = h3.2 in
    let h4 = d.5 in
    let e = h4.2 in
    let last : e.0 ≡ h4.0 = sym (e.2 ∙ ap (λ xs. e.0 ++ xs) e.5 ∙ append-nil e.0) in
    let whole : text ≡ text_of m.0 b.0 c.0 d.0 e.0 =
    m.2 ∙ ap (λ xs. m.0 ++ xs) (h1.1 ∙ ap (λ xs. codes "-" ++ xs) (b.2 ∙ ap (λ xs. b.0 ++ xs) (h2.1 ∙ ap (λ xs. codes "-" ++ xs) (c.2
    ∙ ap (λ xs. c.0 ++ xs) (h3.1 ∙ ap (λ xs. codes "-" ++ xs) (d.2 ∙ ap (λ xs. d.0 ++ xs) (h4.1 ∙ ap (λ xs. codes "-" ++ xs) (sym last)))))))) in
    let all = appended m.0 (b.0 ++ (c.0 ++ (d.0 ++ e.0))) (all-digits m.0 m.3)
    (appended b.0 (c.0 ++ (d.0 ++ e.0)) (all-digits b.0 b.3)
    (appended c.0 (d.0 ++ e.0) (all-digits c.0 c.3) (appended d.0 e.0 (all-digits d.0 d.3) (all-digits e.0 e.3)))) in
    let read = groups-read m.0 b.0 c.0 d.0 e.0 (by_digits m.0 b.0 c.0 d.0 e.0 m.4 b.4 c.4 d.4 e.4) all in
    record { spelled = m; read = (read.0, ap parsed whole ∙ read.1) }
