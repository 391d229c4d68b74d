-- A text is a chain of pieces: blanks, comments and tokens.
use Rattle.std.specs.Prelude.{◌≡◌, ℕ, ◌⊎◌, List, [], ◌∷◌, ◌++◌, IsTrue, Option, Some, None, codes}
use Rattle.idl_lexer.specs.declared.class.Class.TheVariants.{Blank, InLine}
use Rattle.idl_lexer.specs.declared.token.Kind.{Kind}
use Rattle.idl_lexer.specs.Classes.{is_in, IsOver}
use Rattle.idl_lexer.specs.Parts.{Part, literal, run, IsMadeOf, any}
use Rattle.idl_lexer.specs.Spelling.{IsEnclosed, IsToken}

-- a part of a text; a blank and a comment have no kind
pub record Piece : Type 0 where
  pub kind : Option Kind
  pub text : List ℕ

abbrev pub IsBlank : List ℕ → Type 0
IsBlank text = (c : ℕ) × (text ≡ c ∷ []) × IsTrue (is_in Blank c)

unfoldable pub line_comment : List Part
line_comment = literal (codes "//") ∷ run InLine any ∷ []

-- from `//` up to the end of its line, or from `/*` to the first `*/`
abbrev pub IsComment : List ℕ → List ℕ → Type 0
IsComment text next =
    (IsMadeOf line_comment text × IsOver InLine next) ⊎ IsEnclosed (codes "/*") (codes "*/") text

-- the text is a piece of this kind, where `next` follows it
abbrev pub IsPiece : Option Kind → List ℕ → List ℕ → Type 0
IsPiece None text next = IsBlank text ⊎ IsComment text next
IsPiece (Some what) text next = IsToken what text next

-- the text of the pieces, one after the other
abbrev pub text_of : List Piece → List ℕ
text_of [] = []
text_of (p ∷ ps) = p.text ++ text_of ps

-- each is a piece, where `rest` follows the last
abbrev pub IsChain : List Piece → List ℕ → Type 0
IsChain [] rest = Unit {0}
IsChain (p ∷ ps) rest = IsPiece p.kind p.text (text_of ps ++ rest) × IsChain ps rest
