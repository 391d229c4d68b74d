-- Where two symbols exclude each other, no token is both.
use Rattle.std.proofs.Common.{◌≡◌, ℕ, Bool, true, false, not, ◌&&◌, ◌||◌, ◌⊎◌, inl, inr, List, Option, Some, None, refl, sym, ◌∙◌, arith}
use Rattle.std.proofs.lemmas.Bool.Decides.{nat_tests}
use Rattle.std.proofs.lemmas.Slice.Eq.{bytes_eq-Decides}
use Rattle.std.specs.Prelude.{nat_eq}
use Rattle.std.specs.Str.{bytes_eq}
use Rattle.idl_lexer.specs.declared.token.Kind.{Kind}
use Rattle.idl_grammar.specs.declared.terminal.Terminal.{Terminal}
use Rattle.idl_grammar.specs.declared.terminal.Terminal.TheVariants as terminal
use Rattle.idl_grammar.specs.Terminals.{Lexeme, fits, is_symbol, same_kind, kind_number}
use Rattle.idl_grammar.specs.Read.{kind_of, spelling, differ, excludes}

-- tests of Booleans

pub both_true : (a b : Bool) → (a && b) ≡ true → (a ≡ true) × (b ≡ true)
both_true true b h = (refl, h)
both_true false b h = cc

pub all_three : (a b c : Bool) → (a && b && c) ≡ true → (a ≡ true) × (b ≡ true) × (c ≡ true)
all_three true true c h = (refl, refl, h)
all_three true false c h = cc
all_three false b c h = cc

pub all_four : (a b c d : Bool) → (a && b && c && d) ≡ true → (a ≡ true) × (b ≡ true) × (c ≡ true) × (d ≡ true)
all_four true true true d h = (refl, refl, refl, h)
all_four true true false d h = cc
all_four true false c d h = cc
all_four false b c d h = cc

pub not_true : (b : Bool) → not b ≡ true → b ≡ false
not_true true h = cc
not_true false h = refl

pub or_true : (a b : Bool) → (a || b) ≡ true → (a ≡ true) ⊎ (b ≡ true)
or_true true b h = inl refl
or_true false b h = inr h

pub or_false : (a b : Bool) → (a || b) ≡ false → (a ≡ false) × (b ≡ false)
or_false true b h = cc
or_false false b h = (refl, h)

-- ---- two symbols

equal_numbers : (t a b : ℕ) → nat_eq t a ≡ true → nat_eq t b ≡ true → nat_eq a b ≡ true
equal_numbers t a b h i = grind (arith, nat_tests)

same_kinds : (t a b : Kind) → same_kind t a ≡ true → same_kind t b ≡ true → same_kind a b ≡ true
unfolding same_kind
same_kinds t a b h i = equal_numbers (kind_number t) (kind_number a) (kind_number b) h i

-- the text is this one, where there is one
Is : List ℕ → Option (List ℕ) → Type 0
Is text None = Unit {0}
Is text (Some other) = bytes_eq text other ≡ true

symbol-parts : (symbol : Terminal) (what : Kind) (text : List ℕ) → is_symbol symbol what text ≡ true → (same_kind what (kind_of symbol) ≡ true) × Is text (spelling symbol)
unfolding is_symbol Is
symbol-parts terminal.Word what text h = (h, tt)
symbol-parts terminal.Number what text h = (h, tt)
symbol-parts terminal.Iid what text h = (h, tt)
symbol-parts terminal.Include what text h = (h, tt)
symbol-parts terminal.Code what text h = (h, tt)
symbol-parts terminal.Native what text h = (h, tt)
symbol-parts (terminal.Key k) what text h = both_true _ _ h
symbol-parts (terminal.Mark m) what text h = both_true _ _ h

same_texts : (text : List ℕ) (a b : Option (List ℕ)) → Is text a → Is text b → differ a b ≡ false
unfolding Is
same_texts text None b h i = refl
same_texts text (Some x) None h i = refl
same_texts text (Some x) (Some y) h i =
    let a : text ≡ x = (bytes_eq-Decides text x).0 h in
    let b : text ≡ y = (bytes_eq-Decides text y).0 i in
    let same : bytes_eq x y ≡ true = (bytes_eq-Decides x y).1 (sym a ∙ b) in
    rw same refl

either_false : (b : Bool) → (b ≡ true → ⊥) → b ≡ false
either_false true h = absurd (h refl)
either_false false h = refl

not_both : (same differs : Bool) → (not same || differs) ≡ true → same ≡ true → differs ≡ false → ⊥
not_both true differs h i j = cc
not_both false differs h i j = cc

pub excludes-fits : (one other : Terminal) (t : Lexeme) → excludes one other ≡ true → fits t one ≡ true → fits t other ≡ false
unfolding excludes
excludes-fits one other t e h = either_false (fits t other) (λ i.
    let p = symbol-parts one t.kind t.text h in
    let q = symbol-parts other t.kind t.text i in
    not_both _ _ e (same_kinds t.kind (kind_of one) (kind_of other) p.0 q.0) (same_texts t.text (spelling one) (spelling other) p.1 q.1))
