-- Sets of symbols, as lists.
use Rattle.std.proofs.Common.{◌≡◌, Bool, true, false, ◌||◌, ◌⊎◌, inl, inr, List, [], ◌∷◌, ◌++◌, refl, sym, ◌∙◌, ap}
use Rattle.std.specs.List.{list_any}
use Rattle.idl_grammar.specs.declared.terminal.Terminal.{Terminal}
use Rattle.idl_grammar.specs.Terminals.{Lexeme, fits}
use Rattle.idl_grammar.specs.Read.{has, next_in, when, excludes, excludes_all, apart}
use Rattle.idl_grammar.proofs.Symbols.{both_true, or_true, or_false, excludes-fits}

or-assoc : (a b c : Bool) → (a || b || c) ≡ (a || (b || c))
or-assoc true b c = refl
or-assoc false b c = refl

has-append : (t : Lexeme) (xs ys : List Terminal) → has t (xs ++ ys) ≡ (has t xs || has t ys)
has-append t [] ys = refl
has-append t (x ∷ xs) ys = ap (λ b. fits t x || b) (has-append t xs ys) ∙ sym (or-assoc (fits t x) (has t xs) (has t ys))

or-right : (a b : Bool) → b ≡ true → (a || b) ≡ true
or-right true b h = refl
or-right false b h = h

or-left : (a b : Bool) → a ≡ true → (a || b) ≡ true
or-left true b h = refl
or-left false b h = cc

pub has-left : (t : Lexeme) (xs ys : List Terminal) → has t xs ≡ true → has t (xs ++ ys) ≡ true
has-left t xs ys h = has-append t xs ys ∙ or-left (has t xs) (has t ys) h

pub has-right : (t : Lexeme) (xs ys : List Terminal) → has t ys ≡ true → has t (xs ++ ys) ≡ true
has-right t xs ys h = has-append t xs ys ∙ or-right (has t xs) (has t ys) h

pub has-when : (t : Lexeme) (b : Bool) (xs : List Terminal) → b ≡ true → has t xs ≡ true → has t (when b xs) ≡ true
has-when t true xs e h = h
has-when t false xs e h = cc

pub next-neither : (xs ys : List Terminal) (ts : List Lexeme) → next_in (xs ++ ys) ts ≡ false → (next_in xs ts ≡ false) × (next_in ys ts ≡ false)
next-neither xs ys [] h = (refl, refl)
next-neither xs ys (t ∷ ts) h = or_false (has t xs) (has t ys) (sym (has-append t xs ys) ∙ h)

pub next-when : (b : Bool) (xs : List Terminal) (ts : List Lexeme) → b ≡ true → next_in (when b xs) ts ≡ false → next_in xs ts ≡ false
next-when true xs ts e h = h
next-when false xs ts e h = cc

excluded-one : (t : Lexeme) (x y : Terminal) (later : Bool) → excludes x y ≡ true → (later ≡ true → ⊥) → (fits t y ≡ true) ⊎ (later ≡ true) → fits t x ≡ true → ⊥
excluded-one t x y later e more (inl g) f = let no = excludes-fits x y t e f in cc
excluded-one t x y later e more (inr g) f = more g

excluded : (t : Lexeme) (x : Terminal) (ys : List Terminal) → excludes_all x ys ≡ true → has t ys ≡ true → fits t x ≡ true → ⊥
excluded t x [] e h f = cc
excluded t x (y ∷ ys) e h f =
    let p = both_true (excludes x y) (excludes_all x ys) e in
    excluded-one t x y (has t ys) p.0 (λ g. excluded t x ys p.1 g f) (or_true (fits t y) (has t ys) h) f

either_false : (b : Bool) → (b ≡ true → ⊥) → b ≡ false
either_false true h = absurd (h refl)
either_false false h = refl

neither : (a b : Bool) → a ≡ false → b ≡ false → (a || b) ≡ false
neither true b e f = e
neither false b e f = f

pub apart-has : (t : Lexeme) (xs ys : List Terminal) → apart xs ys ≡ true → has t ys ≡ true → has t xs ≡ false
apart-has t [] ys e h = refl
apart-has t (x ∷ xs) ys e h =
    let p = both_true (excludes_all x ys) (apart xs ys) e in
    neither (fits t x) (has t xs) (either_false (fits t x) (excluded t x ys p.0 h)) (apart-has t xs ys p.1 h)

-- ---- one of several symbols

over : (t : Lexeme) (symbols : List Terminal) → list_any (λ symbol. fits t symbol || false) symbols ≡ has t symbols
over t [] = refl
over t (x ∷ xs) = rw (over t xs) (of_test (fits t x) (has t xs)) where
  of_test : (a b : Bool) → (a || false || b) ≡ (a || b)
  of_test true b = refl
  of_test false b = refl

none : (symbols : List Terminal) → list_any (λ symbol. false) symbols ≡ false
none [] = refl
none (x ∷ xs) = none xs

pub any_next : (symbols : List Terminal) (ts : List Lexeme) → list_any (λ symbol. next_in (symbol ∷ []) ts) symbols ≡ next_in symbols ts
any_next symbols [] = none symbols
any_next symbols (t ∷ ts) = over t symbols
