-- The tokens of a text are spelled as their kinds are, and what follows of names and numbers.
use Rattle.std.proofs.Common.{◌≡◌, ◌<◌, ◌≤◌, ℕ, Bool, true, false, All, List, [], ◌∷◌, ◌++◌, length, refl, sym, ◌∙◌, ap, subst, append-nil, arith, codes, leb-true}
use Rattle.std.specs.Prelude.{nat_le}
use Rattle.std.specs.List.{list_all}
use Rattle.std.specs.Str.{bytes_eq}
use Rattle.std.proofs.lemmas.Bool.Decides.{nat_tests}
use Rattle.std.proofs.lemmas.List.Elements.{All-nil, All-cons, All-head, All-tail}
use Rattle.std.proofs.lemmas.Slice.Eq.{bytes_eq-Decides}
use Rattle.idl_lexer.specs.declared.class.Class.TheVariants.{NameStart, NameByte}
use Rattle.idl_lexer.specs.declared.token.Kind.{Kind}
use Rattle.idl_lexer.specs.declared.token.Kind.TheVariants as kind
use Rattle.idl_lexer.specs.declared.token.Token.{Token}
use Rattle.idl_lexer.specs.Classes.{is_in}
use Rattle.idl_lexer.specs.Parts.{IsMadeOf, is_name, is_word}
use Rattle.idl_lexer.specs.Spelling.{IsNumber, IsWord, Spells, iid}
use Rattle.idl_lexer.specs.Tokens.{AreTokens, IsTokenOf}
use Rattle.idl_lexer.proofs.ByteLaws.{word-tests}
use Rattle.idl_lexer.proofs.LexLaws.{tokens-each}
use Rattle.idl_grammar.specs.declared.terminal.Key.{Key}
use Rattle.idl_grammar.specs.declared.terminal.Terminal.TheVariants as terminal
use Rattle.idl_grammar.specs.Rule.{token}
use Rattle.idl_grammar.specs.Terminals.{Lexeme, fits, is_symbol, key_spelling, lexemes_of, same_kind}
use Rattle.idl_grammar.specs.Trees.{IsIid, IsName, IsShortText}
use Rattle.idl_grammar.proofs.IidLaws.{iid-read}
use Rattle.idl_grammar.proofs.Made.{AreSpelled, IsSpelled, Makes, makes_token}
use Rattle.idl_grammar.proofs.Symbols.{both_true}

-- ---- the tokens of a text

lexemes-spelled : (source : List ℕ) (tokens : List Token) → All (IsTokenOf source) tokens → AreSpelled (lexemes_of source tokens)
lexemes-spelled source [] all = tt
lexemes-spelled source (t ∷ ts) all =
    let first = All-head (IsTokenOf source) t ts all in
    ((_, first.spelled.spelled), lexemes-spelled source ts (All-tail (IsTokenOf source) t ts all))

pub text-spelled : (source : List ℕ) (tokens : List Token) → AreTokens source tokens → AreSpelled (lexemes_of source tokens)
text-spelled source tokens spelled = lexemes-spelled source tokens (tokens-each source tokens spelled)

-- ---- names

above-zero : (c : ℕ) → is_in NameByte c ≡ true → 0 < c
unfolding is_in
above-zero c h = grind (arith, nat_tests)

no-zero : (text : List ℕ) → list_all (is_in NameByte) text ≡ true → All (λ b. 0 < b) text
no-zero [] h = All-nil (λ b. 0 < b)
no-zero (c ∷ cs) h =
    let both = both_true (is_in NameByte c) (list_all (is_in NameByte) cs) h in
    All-cons (λ b. 0 < b) c cs (above-zero c both.0) (no-zero cs both.1)

name-filled : (text : List ℕ) → is_name text ≡ true → (0 < length text) × (length text ≤ 255)
unfolding is_name
name-filled [] h = absurd cc
name-filled (c ∷ cs) h =
    let both = both_true (is_in NameStart c) (nat_le (length (c ∷ cs)) 255) h in (omega arith, leb-true _ _ both.1)

word-short : (text : List ℕ) → list_all (is_in NameByte) text ≡ true → is_word text ≡ true → IsShortText text
word-short text all word =
    let tests = word-tests text word in
    let filled = name-filled text tests.0 in
    record { present = filled.0; short = filled.1; no_zero = no-zero text all }

pub word-name : (text : List ℕ) → IsWord text → IsName text
word-name text w =
    let same : w.0 ≡ text = sym (w.2 ∙ ap (λ xs. w.0 ++ xs) w.5 ∙ append-nil w.0) in
    record { word = w; text = subst IsShortText same (word-short w.0 w.3 w.4) }

-- ---- what a token of a symbol is

word-like : (k : Kind) (text next : List ℕ) → same_kind k kind.Word ≡ true → Spells k text next → IsWord text
unfolding same_kind
word-like kind.Word text next e s = s.0
word-like _ text next e s = absurd cc

number-like : (k : Kind) (text next : List ℕ) → same_kind k kind.Number ≡ true → Spells k text next → IsNumber text
unfolding same_kind
number-like kind.Number text next e s = s
number-like _ text next e s = absurd cc

iid-like : (k : Kind) (text next : List ℕ) → same_kind k kind.Iid ≡ true → Spells k text next → IsMadeOf iid text
unfolding same_kind
iid-like kind.Iid text next e s = s
iid-like _ text next e s = absurd cc

pub word-token : (t : Lexeme) → IsSpelled t → fits t terminal.Word ≡ true → IsName t.text
unfolding is_symbol
word-token t s e = word-name t.text (word-like t.kind t.text s.0 e s.1)

pub number-token : (t : Lexeme) → IsSpelled t → fits t terminal.Number ≡ true → IsNumber t.text
unfolding is_symbol
number-token t s e = number-like t.kind t.text s.0 e s.1

pub iid-token : (t : Lexeme) → IsSpelled t → fits t terminal.Iid ≡ true → IsIid t.text
unfolding is_symbol
iid-token t s e = iid-read t.text (iid-like t.kind t.text s.0 e s.1)

pub key-token : (k : Key) (t : Lexeme) → fits t (terminal.Key k) ≡ true → t.text ≡ key_spelling k
unfolding is_symbol
key-token k t e =
    let both = both_true (same_kind t.kind kind.Key) (bytes_eq t.text (key_spelling k)) e in
    (bytes_eq-Decides t.text (key_spelling k)).0 both.1
