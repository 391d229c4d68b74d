-- The keywords and the marks of the grammar are those of the lexer.
use Rattle.std.proofs.Common.{◌≡◌, ◌⊎◌, ◌&&◌, ◌||◌, ℕ, Bool, true, false, inl, inr, List, [], ◌∷◌, refl, sym, ◌∙◌, ap, subst, codes}
use Rattle.std.specs.Prelude.{◌==◌}
use Rattle.std.specs.List.{list_any}
use Rattle.std.specs.Str.{bytes_eq}
use Rattle.std.proofs.lemmas.Bool.Decides.{Decides-eqb}
use Rattle.std.proofs.lemmas.Slice.Eq.{bytes_eq-Decides}
use Rattle.idl_lexer.specs.declared.class.Class.TheVariants.{Single}
use Rattle.idl_lexer.specs.Classes.{is_in}
use Rattle.idl_lexer.specs.Parts.{is_key, keys}
use Rattle.idl_lexer.specs.Spelling.{is_mark}
use Rattle.idl_lexer.proofs.ByteLaws.{Each, listed}
use Rattle.idl_grammar.specs.declared.terminal.Key.{Key}
use Rattle.idl_grammar.specs.declared.terminal.Key.TheVariants as key
use Rattle.idl_grammar.specs.declared.terminal.Mark.{Mark}
use Rattle.idl_grammar.specs.declared.terminal.Mark.TheVariants as mark
use Rattle.idl_grammar.specs.Terminals.{IsKeyText, IsMarkText, key_spelling, mark_spelling}
use Rattle.idl_grammar.proofs.Symbols.{both_true, or_true}

-- what holds of each listed text holds of a text that is listed
listed-text : (P : List ℕ → Type 0) (xs : List (List ℕ)) (text : List ℕ) → Each P xs → list_any (λ x. bytes_eq x text) xs ≡ true → P text
listed-text P [] text each e = cc
listed-text P (x ∷ xs) text each e = by_test (bytes_eq x text) refl (listed-text P xs text each.1) where
  by_test : (t : Bool) → bytes_eq x text ≡ t → (list_any (λ x. bytes_eq x text) xs ≡ true → P text) → P text
  by_test true q more = subst P ((bytes_eq-Decides x text).0 q) each.0
  by_test false q more = more (rw q at e)

pub key-is : (k : Key) → is_key (key_spelling k) ≡ true
unfolding is_key keys
key-is key.Attribute = refl
key-is key.Boolean = refl
key-is key.Char = refl
key-is key.Const = refl
key-is key.Double = refl
key-is key.Float = refl
key-is key.In = refl
key-is key.InOut = refl
key-is key.Interface = refl
key-is key.Long = refl
key-is key.Octet = refl
key-is key.Out = refl
key-is key.Raises = refl
key-is key.ReadOnly = refl
key-is key.Short = refl
key-is key.String = refl
key-is key.Typedef = refl
key-is key.Unsigned = refl
key-is key.Void = refl
key-is key.WChar = refl
key-is key.WString = refl

pub is_key-no_other : (text : List ℕ) → is_key text ≡ true → IsKeyText text
unfolding is_key keys
is_key-no_other text e = listed-text IsKeyText keys text (inr (key.Attribute, refl), (inr (key.Boolean, refl), (inr (key.Char, refl), (inr (key.Const, refl), (inr (key.Double, refl), (inr (key.Float, refl), (inr (key.In, refl), (inr (key.InOut, refl), (inr (key.Interface, refl), (inr (key.Long, refl), (inl refl, (inr (key.Octet, refl), (inr (key.Out, refl), (inr (key.Raises, refl), (inr (key.ReadOnly, refl), (inr (key.Short, refl), (inr (key.String, refl), (inr (key.Typedef, refl), (inr (key.Unsigned, refl), (inr (key.Void, refl), (inr (key.WChar, refl), (inr (key.WString, refl), tt)))))))))))))))))))))) e

pub mark-is : (m : Mark) → is_mark (mark_spelling m) ≡ true
unfolding is_in
mark-is mark.LParen = refl
mark-is mark.RParen = refl
mark-is mark.LBracket = refl
mark-is mark.RBracket = refl
mark-is mark.LBrace = refl
mark-is mark.RBrace = refl
mark-is mark.Comma = refl
mark-is mark.Semi = refl
mark-is mark.Colon = refl
mark-is mark.Equals = refl
mark-is mark.Plus = refl
mark-is mark.Minus = refl
mark-is mark.Star = refl
mark-is mark.Bar = refl
mark-is mark.Shl = refl
mark-is mark.Shr = refl

one-byte : (c : ℕ) → is_in Single c ≡ true → IsMarkText (c ∷ [])
unfolding is_in
one-byte c e = listed (λ c. IsMarkText (c ∷ [])) (codes "()[]{},;:=+-*|") c ((mark.LParen, refl), ((mark.RParen, refl), ((mark.LBracket, refl), ((mark.RBracket, refl), ((mark.LBrace, refl), ((mark.RBrace, refl), ((mark.Comma, refl), ((mark.Semi, refl), ((mark.Colon, refl), ((mark.Equals, refl), ((mark.Plus, refl), ((mark.Minus, refl), ((mark.Star, refl), ((mark.Bar, refl), tt)))))))))))))) e

two-bytes : (c d : ℕ) → (c == d) ≡ true → ((c == 60) ≡ true) ⊎ ((c == 62) ≡ true) → IsMarkText (c ∷ d ∷ [])
two-bytes c d e (inl f) =
    let first = (Decides-eqb c 60).0 f in
    let second = sym ((Decides-eqb c d).0 e) ∙ first in (mark.Shl, rw (first, second) refl)
two-bytes c d e (inr f) =
    let first = (Decides-eqb c 62).0 f in
    let second = sym ((Decides-eqb c d).0 e) ∙ first in (mark.Shr, rw (first, second) refl)

pub is_mark-no_other : (text : List ℕ) → is_mark text ≡ true → IsMarkText text
is_mark-no_other [] e = absurd cc
is_mark-no_other (c ∷ []) e = one-byte c e
is_mark-no_other (c ∷ d ∷ []) e =
    let both = both_true (c == d) (c == 60 || c == 62) e in two-bytes c d both.0 (or_true (c == 60) (c == 62) both.1)
is_mark-no_other (c ∷ d ∷ f ∷ more) e = absurd cc
