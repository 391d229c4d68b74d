-- What the parser computes: the reading of a rule with one token of look-ahead, as a function on
-- lists of tokens, and the test that one token is enough. A rule is read by its own form; there is
-- no reading by hand of any production.
use Rattle.std.specs.Prelude.{ℕ, zero, suc, Bool, true, false, not, ◌&&◌, ◌||◌, if◌then◌else◌, List, [], ◌∷◌, ◌++◌, drop, length, Option, Some, None, Result, Ok, Err}
use Rattle.std.specs.Str.{bytes_eq}
use Rattle.idl_lexer.specs.declared.class.Class.TheVariants.{NameByte, Gap, Quoted, Parenthesized}
use Rattle.idl_lexer.specs.declared.token.Kind.{Kind}
use Rattle.idl_lexer.specs.declared.token.Kind.TheVariants as kind
use Rattle.idl_lexer.specs.Reading.{front, behind, is_whole}
use Rattle.idl_lexer.specs.Spelling as lexer
use Rattle.idl_grammar.specs.declared.terminal.Terminal.{Terminal}
use Rattle.idl_grammar.specs.declared.terminal.Terminal.TheVariants as terminal
use Rattle.idl_grammar.specs.Spellings.{Parted, Include, Native}
use Rattle.idl_grammar.specs.Terminals.{Lexeme, fits, symbol_of, same_kind, key_spelling, mark_spelling}
use Rattle.idl_grammar.specs.Rule.{Rule, token, parted, nothing, map, both, or, many, lined, line_of}

-- ---- look-ahead

-- whether the token is one of the symbols
abbrev pub has : Lexeme → List Terminal → Bool
has t [] = false
has t (symbol ∷ symbols) = fits t symbol || has t symbols

-- whether there is a next token, and it is one of the symbols
abbrev pub next_in : List Terminal → List Lexeme → Bool
next_in symbols [] = false
next_in symbols (t ∷ ts) = has t symbols

abbrev pub when : Bool → List Terminal → List Terminal
when b symbols = if b then symbols else []

-- whether the rule reads nothing at all
abbrev pub is_nullable : {A : Type 0} → Rule A → Bool
is_nullable (token symbol) = false
is_nullable (parted form) = false
is_nullable (nothing x) = true
is_nullable (map f p) = is_nullable p
is_nullable (both p q) = is_nullable p && is_nullable q
is_nullable (or p q) = is_nullable p || is_nullable q
is_nullable (many p) = true
is_nullable (lined p) = is_nullable p

-- the symbols with which a reading may begin
abbrev pub starts : {A : Type 0} → Rule A → List Terminal
starts (token symbol) = symbol ∷ []
starts (parted form) = symbol_of form ∷ []
starts (nothing x) = []
starts (map f p) = starts p
starts (both p q) = starts p ++ when (is_nullable p) (starts q)
starts (or p q) = starts p ++ starts q
starts (many p) = starts p
starts (lined p) = starts p

-- the symbols with which a whole reading may go on
abbrev pub goes_on : {A : Type 0} → Rule A → List Terminal
goes_on (token symbol) = []
goes_on (parted form) = []
goes_on (nothing x) = []
goes_on (map f p) = goes_on p
goes_on (both p q) = goes_on q ++ when (is_nullable q) (goes_on p)
goes_on (or p q) = goes_on p ++ goes_on q ++ when (is_nullable q) (starts p)
goes_on (many p) = starts p ++ goes_on p
goes_on (lined p) = goes_on p

-- ---- symbols of which no token is both

abbrev pub kind_of : Terminal → Kind
kind_of terminal.Word = kind.Word
kind_of terminal.Number = kind.Number
kind_of terminal.Iid = kind.Iid
kind_of terminal.Include = kind.Include
kind_of terminal.Code = kind.Code
kind_of terminal.Native = kind.Native
kind_of (terminal.Key k) = kind.Key
kind_of (terminal.Mark m) = kind.Mark

abbrev pub spelling : Terminal → Option (List ℕ)
spelling terminal.Word = None
spelling terminal.Number = None
spelling terminal.Iid = None
spelling terminal.Include = None
spelling terminal.Code = None
spelling terminal.Native = None
spelling (terminal.Key k) = Some (key_spelling k)
spelling (terminal.Mark m) = Some (mark_spelling m)

abbrev pub differ : Option (List ℕ) → Option (List ℕ) → Bool
differ None other = false
differ (Some text) None = false
differ (Some text) (Some other) = not (bytes_eq text other)

-- no token is both symbols
unfoldable pub excludes : Terminal → Terminal → Bool
excludes one other =
    not (same_kind (kind_of one) (kind_of other)) || differ (spelling one) (spelling other)

abbrev pub excludes_all : Terminal → List Terminal → Bool
excludes_all symbol [] = true
excludes_all symbol (other ∷ others) = excludes symbol other && excludes_all symbol others

-- no token is one of both
abbrev pub apart : List Terminal → List Terminal → Bool
apart [] others = true
apart (symbol ∷ symbols) others = excludes_all symbol others && apart symbols others

-- one token of look-ahead is enough: only the last of several alternatives may be empty,
-- alternatives begin apart, and what follows a reading begins apart from what the reading may go
-- on with
abbrev pub is_predictive : {A : Type 0} → Rule A → Bool
is_predictive (token symbol) = true
is_predictive (parted form) = true
is_predictive (nothing x) = true
is_predictive (map f p) = is_predictive p
is_predictive (both p q) = is_predictive p && is_predictive q && apart (goes_on p) (starts q)
is_predictive (or p q) =
    is_predictive p && is_predictive q && not (is_nullable p) && apart (starts p) (starts q)
is_predictive (many p) = is_predictive p && not (is_nullable p) && apart (goes_on p) (starts p)
is_predictive (lined p) = is_predictive p && not (is_nullable p)

-- ---- the parts of a spelling, as the reader finds them

-- the bytes between the quotes of an include
unfoldable pub quoted : List ℕ → List ℕ
quoted text = front Quoted (drop 1 (behind Gap (drop 8 text)))

-- what stands behind the word `native` and its gap
abbrev pub behind_native : List ℕ → List ℕ
behind_native spelling = behind Gap (drop 6 spelling)

-- the name of a native
unfoldable pub native_name : List ℕ → List ℕ
native_name spelling = front NameByte (behind_native spelling)

-- the bytes between the parentheses of a native
unfoldable pub native_text : List ℕ → List ℕ
native_text spelling =
    front Parenthesized (drop 1 (behind Gap (behind NameByte (behind_native spelling))))

-- the parts of a spelling that has some
abbrev pub parts_of : {A : Type 0} → Parted A → List ℕ → A
parts_of Include spelling = quoted spelling
parts_of Native spelling = (native_name spelling, native_text spelling)

-- whether the spelling has such parts
abbrev pub has_parts : {A : Type 0} → Parted A → List ℕ → Bool
has_parts Include spelling = is_whole lexer.include spelling
has_parts Native spelling = is_whole lexer.native spelling

-- ---- the reading

-- the tree and the tokens behind it, or the tokens from the first that cannot go on
abbrev pub Outcome : Type 0 → Type 0
Outcome A = Result (A × List Lexeme) (List Lexeme)

abbrev pub pair : {A B : Type 0} → A → B → A × B
pair a b = (a, b)

abbrev pub and_then : {A B : Type 0} → Outcome A → (A → List Lexeme → Outcome B) → Outcome B
and_then (Ok p) f = f p.0 p.1
and_then (Err rest) f = Err rest

abbrev pub read_token : Terminal → List Lexeme → Outcome (List ℕ)
read_token symbol [] = Err []
read_token symbol (t ∷ ts) = if fits t symbol then Ok (pair t.text ts) else Err (t ∷ ts)

-- the spelling of the next token, where there is one
abbrev pub next_text : List Lexeme → List ℕ
next_text [] = []
next_text (t ∷ ts) = t.text

-- the same of a token of the symbol whose spelling has the parts
abbrev pub read_spelling : {A : Type 0} → Parted A → List Lexeme → Outcome (List ℕ)
read_spelling form [] = Err []
read_spelling form (t ∷ ts) =
    if fits t (symbol_of form) && has_parts form t.text then Ok (pair t.text ts) else Err (t ∷ ts)

abbrev pub read_parts : {A : Type 0} → Parted A → List Lexeme → Outcome A
read_parts form ts =
    and_then (read_spelling form ts) (λ text rest. Ok (pair (parts_of form text) rest))

-- readings one behind the other, as long as the next token begins one
abbrev pub read_many : {A : Type 0} → (List Lexeme → Outcome A)
    → List Terminal → ℕ → List Lexeme → Outcome (List A)
read_many f symbols zero ts = Ok (pair [] ts)
read_many f symbols (suc fuel) ts =
    if next_in symbols ts
    then and_then (f ts) (λ x rest.
    and_then (read_many f symbols fuel rest) (λ xs end. Ok (pair (x ∷ xs) end)))
    else Ok (pair [] ts)

abbrev pub read : {A : Type 0} → Rule A → List Lexeme → Outcome A
read (token symbol) ts = read_token symbol ts
read (parted form) ts = read_parts form ts
read (nothing x) ts = Ok (pair x ts)
read (map f p) ts = and_then (read p ts) (λ a rest. Ok (pair (f a) rest))
read (both p q) ts =
    and_then (read p ts) (λ a rest. and_then (read q rest) (λ b end. Ok (pair (pair a b) end)))
read (or p q) ts = if next_in (starts p) ts then read p ts else read q ts
read (many p) ts = read_many (read p) (starts p) (length ts) ts
read (lined p) ts = and_then (read p ts) (λ a rest. Ok (pair (pair (line_of ts) a) rest))

-- how many tokens are left
abbrev pub left : {A : Type 0} → Outcome A → ℕ
left (Ok p) = length p.1
left (Err rest) = length rest
