-- How each kind of token is spelled.
use Rattle.std.specs.Prelude.{◌≡◌, ◌≤◌, ℕ, Bool, false, ◌&&◌, ◌||◌, ◌==◌, ◌⊎◌, List, [], ◌∷◌, ◌++◌, length, IsTrue, codes}
use Rattle.idl_lexer.specs.declared.class.Class.TheVariants.{NameByte, Digit, Hexadecimal, Gap, Space, Quoted, Parenthesized, Single}
use Rattle.idl_lexer.specs.declared.token.Kind.{Kind}
use Rattle.idl_lexer.specs.declared.token.Kind.TheVariants as kind
use Rattle.idl_lexer.specs.Classes.{is_in, IsOver}
use Rattle.idl_lexer.specs.Parts.{Part, literal, counted, run, IsMadeOf, any, some, short, is_key, is_word}

unfoldable pub hexadecimal : List Part
hexadecimal = literal (codes "0x") ∷ run Hexadecimal some ∷ []

unfoldable pub decimal : List Part
decimal = run Digit some ∷ []

unfoldable pub iid : List Part
iid =
    counted Hexadecimal 8 ∷ literal (codes "-") ∷ counted Hexadecimal 4 ∷ literal (codes "-")
    ∷ counted Hexadecimal 4 ∷ literal (codes "-") ∷ counted Hexadecimal 4 ∷ literal (codes "-")
    ∷ counted Hexadecimal 12 ∷ []

unfoldable pub include : List Part
include =
    literal (codes "#include") ∷ run Gap some ∷ literal (34 ∷ []) ∷ run Quoted short
    ∷ literal (34 ∷ []) ∷ []

unfoldable pub native : List Part
native =
    literal (codes "native") ∷ run Gap some ∷ run NameByte is_word ∷ run Gap any
    ∷ literal (codes "(") ∷ run Parenthesized some ∷ literal (codes ")") ∷ []

-- the language of a block of code
unfoldable pub language : List Part
language = run Space any ∷ literal (codes "C++") ∷ []

-- somewhere in the text stands this
abbrev pub Holds : List ℕ → List ℕ → Type 0
Holds text part = (before : List ℕ) × (behind : List ℕ) × (text ≡ before ++ part ++ behind)

-- the text goes from `opening` to the first `closing` behind it
abbrev pub IsEnclosed : List ℕ → List ℕ → List ℕ → Type 0
IsEnclosed opening closing text =
    (body : List ℕ) × (text ≡ opening ++ body ++ closing) × (Holds body closing → ⊥)

abbrev pub IsBlock : List ℕ → Type 0
IsBlock text = IsEnclosed (codes "%{") (codes "%}") text

-- a block, with the language where it follows
abbrev pub IsCode : List ℕ → Type 0
IsCode text =
    IsBlock text
    ⊎ ((block : List ℕ) × (more : List ℕ) × (text ≡ block ++ more)
    × IsBlock block × IsMadeOf language more)

abbrev pub is_mark : List ℕ → Bool
is_mark [] = false
is_mark (c ∷ []) = is_in Single c
is_mark (c ∷ d ∷ []) = (c == d) && (c == 60 || c == 62)
is_mark (c ∷ d ∷ e ∷ _) = false

-- a name: a letter or `_`, and letters, digits and `_`, at most 255 bytes and no keyword
abbrev pub IsWord : List ℕ → Type 0
IsWord text = IsMadeOf (run NameByte is_word ∷ []) text

-- decimal digits, or hexadecimal ones behind `0x`
abbrev pub IsNumber : List ℕ → Type 0
IsNumber text = IsMadeOf hexadecimal text ⊎ IsMadeOf decimal text

-- The text spells a token of the kind, where `next` follows it. A name and a keyword go on as far
-- as they can.
abbrev pub Spells : Kind → List ℕ → List ℕ → Type 0
Spells kind.Word text next = IsWord text × IsOver NameByte next
Spells kind.Key text next = IsMadeOf (run NameByte is_key ∷ []) text × IsOver NameByte next
Spells kind.Number text next = IsNumber text
Spells kind.Iid text next = IsMadeOf iid text
Spells kind.Include text next = IsMadeOf include text
Spells kind.Code text next = IsCode text
Spells kind.Native text next = IsMadeOf native text
Spells kind.Mark text next = IsTrue (is_mark text)

-- the text is a token of the kind: no spelling at its place is longer
pub record IsToken (what : Kind) (text next : List ℕ) : Type 0 where
  pub spelled : Spells what text next
  pub longest : (other : Kind) (front rest : List ℕ) → front ++ rest ≡ text ++ next
      → Spells other front rest → length front ≤ length text
