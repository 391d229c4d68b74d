-- What is kept of a native's spelling, and of an include's, is its parts.
use Rattle.std.proofs.Common.{◌≡◌, inl, ℕ, Bool, true, false, ◌&&◌, Err, List, [], ◌∷◌, ◌++◌, drop, refl, sym, ◌∙◌, ap, subst, append-nil, append_assoc, codes}
use Rattle.std.specs.List.{list_all}
use Rattle.idl_lexer.specs.declared.class.Class.TheVariants.{NameByte, Gap, Quoted, Parenthesized}
use Rattle.idl_lexer.specs.Classes.{is_in, IsOver}
use Rattle.idl_lexer.specs.Parts.{run, literal, IsMadeOf, any, short, some, is_word, is_name}
use Rattle.idl_lexer.specs.Reading.{front, behind, is_whole}
use Rattle.idl_lexer.specs.Spelling.{IsWord, include, native}
use Rattle.idl_lexer.proofs.ByteLaws.{gap-unnamed, named-no_gap}
use Rattle.idl_lexer.proofs.KindLaws.{include-whole, whole-include, native-whole, whole-native}
use Rattle.idl_lexer.proofs.PartLaws.{ends-over, front-whole, behind-whole}
use Rattle.idl_grammar.specs.declared.terminal.Terminal.TheVariants as terminal
use Rattle.idl_grammar.specs.Read.{has_parts, native_name, native_text, next_text, parts_of, quoted, read_spelling, read_token}
use Rattle.idl_grammar.specs.Spellings.{HasParts, IsFileName, IsInclude, IsNative, IsNativeText, Parted, Include, Native, quote}
use Rattle.idl_grammar.specs.Terminals.{Lexeme, fits, symbol_of}
use Rattle.idl_grammar.proofs.Symbols.{both_true}

-- ---- where runs end

name-no_gap : (name rest : List ℕ) → IsWord name → IsOver Gap (name ++ rest)
unfolding is_word is_name
name-no_gap name rest word = ends-over Gap (run NameByte is_word ∷ []) name rest (named-no_gap, inl refl) word

quote-no_gap : (rest : List ℕ) → IsOver Gap (34 ∷ rest)
unfolding is_in
quote-no_gap rest = refl

quote-unquoted : (rest : List ℕ) → IsOver Quoted (34 ∷ rest)
unfolding is_in
quote-unquoted rest = refl

parenthesis-no_gap : (rest : List ℕ) → IsOver Gap (40 ∷ rest)
unfolding is_in
parenthesis-no_gap rest = refl

parenthesis-unnamed : (rest : List ℕ) → IsOver NameByte (40 ∷ rest)
unfolding is_in
parenthesis-unnamed rest = refl

parenthesis-closes : (rest : List ℕ) → IsOver Parenthesized (41 ∷ rest)
unfolding is_in
parenthesis-closes rest = refl

space-unnamed : (space rest : List ℕ) → list_all (is_in Gap) space ≡ true → IsOver NameByte (space ++ 40 ∷ rest)
space-unnamed [] rest h = parenthesis-unnamed rest
space-unnamed (c ∷ cs) rest h = gap-unnamed c (both_true (is_in Gap c) (list_all (is_in Gap) cs) h).0

-- ---- includes

include-groups : (a b c d e : List ℕ) → a ++ b ++ c ++ d ++ e ≡ a ++ (b ++ (c ++ (d ++ e)))
include-groups a b c d e = simp append_assoc

include-parts : (text : List ℕ) → IsMadeOf include text → (name : List ℕ) × IsInclude text name
unfolding include
include-parts text m =
    let g = m.2 in
    let q = g.5 in
    let n = q.2 in
    let c = n.5 in
    let rest : n.1 ≡ quote = c.1 ∙ ap (λ xs. 34 ∷ xs) c.2 in
    let whole : text ≡ codes "#include" ++ (g.0 ++ (quote ++ (n.0 ++ quote))) =
    m.1 ∙ ap (λ xs. codes "#include" ++ xs) (g.2 ∙ ap (λ xs. g.0 ++ xs) (q.1 ∙ ap (λ xs. 34 ∷ xs) (n.2 ∙ ap (λ xs. n.0 ++ xs) rest))) in (
      n.0,
      record {
        gap = g.0;
        whole = whole ∙ sym (include-groups (codes "#include") g.0 quote n.0 quote);
        gaps = g.3;
        parted = g.4;
        named = record { quoted = n.3; short = n.4 };
      },
    )

include-kept : (text name : List ℕ) → IsInclude text name → quoted text ≡ name
unfolding quoted
include-kept text name i =
    let whole : text ≡ codes "#include" ++ (i.gap ++ (34 ∷ (name ++ quote))) = i.whole ∙ include-groups (codes "#include") i.gap quote name quote in
    let gap : behind Gap (i.gap ++ (34 ∷ (name ++ quote))) ≡ 34 ∷ (name ++ quote) =
    behind-whole Gap i.gap (34 ∷ (name ++ quote)) i.gaps (quote-no_gap (name ++ quote)) in
    ap (λ xs. front Quoted (drop 1 (behind Gap (drop 8 xs)))) whole
    ∙ ap (λ xs. front Quoted (drop 1 xs)) gap
    ∙ front-whole Quoted name quote i.named.quoted (quote-unquoted [])

include-made : (text : List ℕ) → IsMadeOf include text → IsInclude text (quoted text)
include-made text m = let p = include-parts text m in subst (IsInclude text) (sym (include-kept text p.0 p.1)) p.1

made-include : (text name : List ℕ) → IsInclude text name → IsMadeOf include text
unfolding include
made-include text name i =
    let whole : text ≡ codes "#include" ++ (i.gap ++ (34 ∷ (name ++ quote))) = i.whole ∙ include-groups (codes "#include") i.gap quote name quote in
    let named : IsMadeOf (run Quoted short ∷ literal quote ∷ []) (name ++ quote) = (name, quote, refl, i.named.quoted, i.named.short, ([], refl, refl)) in
    (i.gap ++ (34 ∷ (name ++ quote)), whole, (i.gap, 34 ∷ (name ++ quote), refl, i.gaps, i.parted, (name ++ quote, refl, named)))

-- ---- natives

native-groups : (a b c d e f g : List ℕ) → a ++ b ++ c ++ d ++ e ++ f ++ g ≡ a ++ (b ++ (c ++ (d ++ (e ++ (f ++ g)))))
native-groups a b c d e f g = simp append_assoc

native-parts : (text : List ℕ) → IsMadeOf native text → (name : List ℕ) × (inside : List ℕ) × IsNative text name inside
unfolding native
native-parts text m =
    let g = m.2 in
    let n = g.5 in
    let s = n.5 in
    let p = s.5 in
    let i = p.2 in
    let c = i.5 in
    let rest : i.1 ≡ codes ")" = c.1 ∙ ap (λ xs. 41 ∷ xs) c.2 in
    let whole : text ≡ codes "native" ++ (g.0 ++ (n.0 ++ (s.0 ++ (codes "(" ++ (i.0 ++ codes ")"))))) =
    m.1 ∙ ap (λ xs. codes "native" ++ xs) (g.2 ∙ ap (λ xs. g.0 ++ xs) (n.2 ∙ ap (λ xs. n.0 ++ xs)
    (s.2 ∙ ap (λ xs. s.0 ++ xs) (p.1 ∙ ap (λ xs. 40 ∷ xs) (i.2 ∙ ap (λ xs. i.0 ++ xs) rest))))) in (
      n.0,
      i.0,
      record {
        gap = g.0;
        space = s.0;
        whole = whole ∙ sym (native-groups (codes "native") g.0 n.0 s.0 (codes "(") i.0 (codes ")"));
        gaps = g.3;
        parted = g.4;
        named = (n.0, [], sym (append-nil n.0), n.3, n.4, refl);
        spaces = s.3;
        written = record { enclosed = i.3; some = i.4 };
      },
    )

-- what is kept of a spelling is this name and this text
abbrev Keeps : (spelling name text : List ℕ) → Type 0
Keeps spelling name text = (native_name spelling ≡ name) × (native_text spelling ≡ text)

named-bytes : (name : List ℕ) → IsWord name → list_all (is_in NameByte) name ≡ true
named-bytes name w =
    let same : name ≡ w.0 = w.2 ∙ ap (λ xs. w.0 ++ xs) w.5 ∙ append-nil w.0 in ap (list_all (is_in NameByte)) same ∙ w.3

native-kept : (text name inside : List ℕ) → IsNative text name inside → Keeps text name inside
unfolding native_name native_text
native-kept text name inside n =
    let closed = inside ++ codes ")" in
    let parenthesis = 40 ∷ closed in
    let whole : text ≡ codes "native" ++ (n.gap ++ (name ++ (n.space ++ parenthesis))) =
    n.whole ∙ native-groups (codes "native") n.gap name n.space (codes "(") inside (codes ")") in
    let all = named-bytes name n.named in
    let ends = space-unnamed n.space closed n.spaces in
    let gap : behind Gap (drop 6 text) ≡ name ++ (n.space ++ parenthesis) =
    ap (λ xs. behind Gap (drop 6 xs)) whole
    ∙ behind-whole Gap n.gap (name ++ (n.space ++ parenthesis)) n.gaps (name-no_gap name (n.space ++ parenthesis) n.named) in (
      ap (λ xs. front NameByte xs) gap ∙ front-whole NameByte name (n.space ++ parenthesis) all ends,
      ap (λ xs. front Parenthesized (drop 1 (behind Gap (behind NameByte xs)))) gap
          ∙ ap (λ xs. front Parenthesized (drop 1 (behind Gap xs))) (behind-whole NameByte name (n.space ++ parenthesis) all ends)
          ∙ ap (λ xs. front Parenthesized (drop 1 xs)) (behind-whole Gap n.space parenthesis n.spaces (parenthesis-no_gap closed))
          ∙ front-whole Parenthesized inside (codes ")") n.written.enclosed (parenthesis-closes []),
    )

-- the name and the text that are kept are those of the spelling
native-made : (text : List ℕ) → IsMadeOf native text → IsNative text (native_name text) (native_text text)
native-made text m =
    let p = native-parts text m in
    let k = native-kept text p.0 p.1 p.2 in
    subst (λ name. IsNative text name (native_text text)) (sym k.0) (subst (λ inside. IsNative text p.0 inside) (sym k.1) p.2)

-- a spelling has one name and one text
pub native-once : (text name inside other within : List ℕ) → IsNative text name inside → IsNative text other within → (name ≡ other) × (inside ≡ within)
native-once text name inside other within one two =
    let k = native-kept text name inside one in
    let l = native-kept text other within two in
    (sym k.0 ∙ l.0, sym k.1 ∙ l.1)

-- a word, as a part of a text
word-run : (name : List ℕ) → IsWord name → is_word name ≡ true
word-run name w = let same : name ≡ w.0 = w.2 ∙ ap (λ xs. w.0 ++ xs) w.5 ∙ append-nil w.0 in ap is_word same ∙ w.4

made-native : (text name inside : List ℕ) → IsNative text name inside → IsMadeOf native text
unfolding native any
made-native text name inside n =
    let closed = inside ++ codes ")" in
    let opened = 40 ∷ closed in
    let spaced = n.space ++ opened in
    let whole : text ≡ codes "native" ++ (n.gap ++ (name ++ (n.space ++ (40 ∷ (inside ++ codes ")"))))) =
    n.whole ∙ native-groups (codes "native") n.gap name n.space (codes "(") inside (codes ")") in
    let written : IsMadeOf (run Parenthesized some ∷ literal (codes ")") ∷ []) (inside ++ codes ")") =
    (inside, codes ")", refl, n.written.enclosed, n.written.some, ([], refl, refl)) in (
      n.gap ++ (name ++ spaced),
      whole,
      (n.gap, name ++ spaced, refl, n.gaps, n.parted, (name, spaced, refl, named-bytes name n.named, word-run name n.named, (n.space, opened, refl, n.spaces, refl, (closed, refl, written)))),
    )

-- ---- spellings that have parts

-- the parts that the reader finds are those of the spelling
pub parts-had : {A : Type 0} (form : Parted A) (spelling : List ℕ) → has_parts form spelling ≡ true → HasParts form spelling (parts_of form spelling)
parts-had Include spelling e = include-made spelling (include-whole spelling e)
parts-had Native spelling e = native-made spelling (native-whole spelling e)

-- and it finds the parts of each spelling that has some
pub had-parts : {A : Type 0} (form : Parted A) (spelling : List ℕ) (parts : A) → HasParts form spelling parts
    → (has_parts form spelling ≡ true) × (parts_of form spelling ≡ parts)
had-parts Include spelling name i =
    (whole-include spelling (made-include spelling name i), include-kept spelling name i)
had-parts Native spelling parts n =
    let k = native-kept spelling parts.0 parts.1 n in
    (whole-native spelling (made-native spelling parts.0 parts.1 n), rw (k.0, k.1) refl)

-- ---- reading them

and-true : (b : Bool) → (b && true) ≡ b
and-true true = refl
and-true false = refl

and-false : (b : Bool) → (b && false) ≡ false
and-false true = refl
and-false false = refl

text-none : {A : Type 0} (form : Parted A) (ts : List Lexeme) → has_parts form (next_text ts) ≡ false → read_spelling form ts ≡ Err ts
text-none form [] e = refl
text-none form (t ∷ ts) e = rw (e, and-false (fits t (symbol_of form))) refl

text-some : {A : Type 0} (form : Parted A) (ts : List Lexeme) → has_parts form (next_text ts) ≡ true → read_spelling form ts ≡ read_token (symbol_of form) ts
text-some form [] e = refl
text-some form (t ∷ ts) e = rw (e, and-true (fits t (symbol_of form))) refl

-- by the test of the next token's spelling
pub include-none : (ts : List Lexeme) → is_whole include (next_text ts) ≡ false → read_spelling Include ts ≡ Err ts
include-none ts e = text-none Include ts e

pub include-some : (ts : List Lexeme) → is_whole include (next_text ts) ≡ true → read_spelling Include ts ≡ read_token terminal.Include ts
include-some ts e = text-some Include ts e

pub native-none : (ts : List Lexeme) → is_whole native (next_text ts) ≡ false → read_spelling Native ts ≡ Err ts
native-none ts e = text-none Native ts e

pub native-some : (ts : List Lexeme) → is_whole native (next_text ts) ≡ true → read_spelling Native ts ≡ read_token terminal.Native ts
native-some ts e = text-some Native ts e

pub ruleset texts_read = (include-none, include-some, native-none, native-some)
