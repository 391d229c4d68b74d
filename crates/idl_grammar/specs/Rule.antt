-- A grammar as data: what a rule reads, and how what it reads may begin.
use Rattle.std.specs.Prelude.{◌≡◌, ℕ, true, ◌⊎◌, List, [], ◌∷◌, ◌++◌, Option, Some, None}
use Rattle.idl_grammar.specs.declared.terminal.Terminal.{Terminal}
use Rattle.idl_grammar.specs.Spellings.{Parted, HasParts}
use Rattle.idl_grammar.specs.Terminals.{Lexeme, fits, symbol_of}

-- A rule whose readings are trees of a type: a token of a symbol, the parts of a token's spelling,
-- nothing at all, a reading made into another tree, one rule and then another, either of two, any
-- number of readings one behind the other, and a reading with the line of its first token.
pub data Rule : Type 0 → Type 1 where
  token : Terminal → Rule (List ℕ)
  parted : {A : Type 0} → Parted A → Rule A
  nothing : {A : Type 0} → A → Rule A
  map : {A B : Type 0} → (A → B) → Rule A → Rule B
  both : {A B : Type 0} → Rule A → Rule B → Rule (A × B)
  or : {A : Type 0} → Rule A → Rule A → Rule A
  many : {A : Type 0} → Rule A → Rule (List A)
  lined : {A : Type 0} → Rule A → Rule (ℕ × A)

-- the line of the first token
abbrev pub line_of : List Lexeme → ℕ
line_of [] = 0
line_of (t ∷ ts) = t.line

-- the tokens fall into pieces, and each of these trees is a reading of its piece
abbrev pub Each : {A : Type 0} → (List Lexeme → A → Type 0) → List Lexeme → List A → Type 0
Each R ts [] = ts ≡ []
Each R ts (x ∷ xs) = (u : List Lexeme) × (v : List Lexeme) × (ts ≡ u ++ v) × R u x × Each R v xs

-- the tree is a reading of these tokens, of all of them
abbrev pub Reads : {A : Type 0} → Rule A → List Lexeme → A → Type 0
Reads (token symbol) ts text =
    (t : Lexeme) × (ts ≡ t ∷ []) × (fits t symbol ≡ true) × (text ≡ t.text)
Reads (parted form) ts parts =
    (t : Lexeme) × (ts ≡ t ∷ []) × (fits t (symbol_of form) ≡ true) × HasParts form t.text parts
Reads (nothing x) ts a = (ts ≡ []) × (a ≡ x)
Reads (map {A = A} f p) ts b = (a : A) × Reads p ts a × (b ≡ f a)
Reads (both p q) ts ab =
    (u : List Lexeme) × (v : List Lexeme) × (ts ≡ u ++ v) × Reads p u ab.0 × Reads q v ab.1
Reads (or p q) ts a = Reads p ts a ⊎ Reads q ts a
Reads (many p) ts xs = Each (Reads p) ts xs
Reads (lined p) ts a = Reads p ts a.1 × (a.0 ≡ line_of ts)

-- The tokens are a prefix form of the rule: of a token that token or nothing, and of a sequence
-- whole readings of the first symbols and then a prefix form of the next. The symbols of a
-- repetition count one by one.
abbrev pub Begins : {A : Type 0} → Rule A → List Lexeme → Type 0
Begins (token symbol) ts = (ts ≡ []) ⊎ ((text : List ℕ) × Reads (token symbol) ts text)
Begins (parted {A = A} form) ts = (ts ≡ []) ⊎ ((parts : A) × Reads (parted form) ts parts)
Begins (nothing x) ts = ts ≡ []
Begins (map f p) ts = Begins p ts
Begins (both {A = A} p q) ts =
    Begins p ts
    ⊎ ((u : List Lexeme) × (v : List Lexeme) × (ts ≡ u ++ v) × ((a : A) × Reads p u a) × Begins q v)
Begins (or p q) ts = Begins p ts ⊎ Begins q ts
Begins (many {A = A} p) ts =
    (u : List Lexeme) × (v : List Lexeme) × (ts ≡ u ++ v)
    × ((xs : List A) × Each (Reads p) u xs) × Begins p v
Begins (lined p) ts = Begins p ts

-- ---- how rules are written

infixr 14 ◌&◌
infixr 14 ◌&>◌
infixr 14 ◌<&◌
infixr 13 ◌<$>◌
infixr 12 ◌<|>◌
-- one and then the other; with the tree of the second alone; with the tree of the first alone
abbrev pub ◌&◌ : {A B : Type 0} → Rule A → Rule B → Rule (A × B)
p & q = both p q

abbrev pub ◌&>◌ : {A B : Type 0} → Rule A → Rule B → Rule B
p &> q = map (λ r. r.1) (both p q)

abbrev pub ◌<&◌ : {A B : Type 0} → Rule A → Rule B → Rule A
p <& q = map (λ r. r.0) (both p q)

abbrev pub ◌<$>◌ : {A B : Type 0} → (A → B) → Rule A → Rule B
f <$> p = map f p

abbrev pub ◌<|>◌ : {A : Type 0} → Rule A → Rule A → Rule A
p <|> q = or p q

-- a reading or nothing
abbrev pub optional : {A : Type 0} → Rule A → Rule (Option A)
optional p = or (map Some p) (nothing None)

-- any number, each behind a separator
abbrev pub each_after : {A B : Type 0} → Rule B → Rule A → Rule (List A)
each_after separator p = many (map (λ r. r.1) (both separator p))

-- one or more, with separators between them
abbrev pub separated : {A B : Type 0} → Rule B → Rule A → Rule (List A)
separated separator p = map (λ r. r.0 ∷ r.1) (both p (each_after separator p))
