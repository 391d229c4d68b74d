-- The tokens of a text, and the place at which a text has none.
use Rattle.std.specs.Prelude.{◌≡◌, ◌≢◌, ◌≤◌, ◌<◌, ◌+◌, ℕ, ◌==◌, ◌⊎◌, List, [], ◌∷◌, ◌++◌, length, take, drop, Option, Some, None, Result, MatchResult, count_by}
use Rattle.std.specs.List.{slice_range}
use Rattle.idl_lexer.specs.declared.token.Kind.{Kind}
use Rattle.idl_lexer.specs.declared.token.Token.{Token}
use Rattle.idl_lexer.specs.declared.token.Tokens.{Tokens}
use Rattle.idl_lexer.specs.declared.token.LexError.{LexError}
use Rattle.idl_lexer.specs.declared.token.LexError.TheVariants as fault
use Rattle.idl_lexer.specs.Spelling.{IsToken}
use Rattle.idl_lexer.specs.Pieces.{Piece, IsPiece, text_of, IsChain}

-- the line of what stands behind these bytes: one more than their line feeds
abbrev pub line_behind : List ℕ → ℕ
line_behind before = 1 + count_by (λ c. c == 10) before

-- the piece's token, where it has one, and then these
abbrev pub with_token : List ℕ → Option Kind → List ℕ → List Token → List Token
with_token before None text tokens = tokens
with_token before (Some what) text tokens =
    record {
      kind = what;
      start = length before;
      end = length before + length text;
      line = line_behind before;
    } ∷ tokens

-- the tokens among the pieces, which stand behind these bytes
abbrev pub tokens_behind : List ℕ → List Piece → List Token
tokens_behind before [] = []
tokens_behind before (p ∷ ps) =
    with_token before p.kind p.text (tokens_behind (before ++ p.text) ps)

-- the text is a chain of pieces, and these are the tokens among them
pub record AreTokens (text : List ℕ) (tokens : List Token) : Type 0 where
  pub pieces : List Piece
  pub whole : text ≡ text_of pieces
  pub chain : IsChain pieces []
  pub among : tokens ≡ tokens_behind [] pieces

-- text is left, and no piece begins it
abbrev pub IsStuck : List ℕ → Type 0
IsStuck rest =
    (rest ≢ [])
    × ((what : Option Kind) (text next : List ℕ) → rest ≡ text ++ next → IsPiece what text next → ⊥)

-- a chain of pieces reaches this place, and no piece begins there
pub record IsNoToken (text : List ℕ) (at : ℕ) : Type 0 where
  pub pieces : List Piece
  pub rest : List ℕ
  pub whole : text ≡ text_of pieces ++ rest
  pub chain : IsChain pieces rest
  pub reached : at ≡ length (text_of pieces)
  pub stuck : IsStuck rest

-- the bytes of a token
abbrev pub spelling_of : List ℕ → Token → List ℕ
spelling_of text token = slice_range text token.start token.end

-- the token stands in the text, the longest spelling at its place, with its kind and its line
pub record IsTokenOf (text : List ℕ) (token : Token) : Type 0 where
  pub filled : token.start < token.end
  pub within : token.end ≤ length text
  pub spelled : IsToken token.kind (spelling_of text token) (drop token.end text)
  pub on_line : token.line ≡ line_behind (take token.start text)

-- the tokens stand one behind the other between the two places, and none is empty
abbrev pub StandInOrder : ℕ → List Token → ℕ → Type 0
StandInOrder from [] to = from ≤ to
StandInOrder from (t ∷ ts) to = (from ≤ t.start) × (t.start < t.end) × StandInOrder t.end ts to

-- the text has tokens or a place without one, never both, and never two lists or two places
pub record HasOneReading (text : List ℕ) : Type 0 where
  pub one_list : (ts us : List Token) → AreTokens text ts → AreTokens text us → ts ≡ us
  pub one_place : (m n : ℕ) → IsNoToken text m → IsNoToken text n → m ≡ n
  pub not_both : (ts : List Token) (n : ℕ) → AreTokens text ts → IsNoToken text n → ⊥
  pub either : ((ts : List Token) × AreTokens text ts) ⊎ ((n : ℕ) × IsNoToken text n)

-- P of the place and of its line, where the error names them
abbrev pub IfAt : LexError → (ℕ → ℕ → Type 0) → Type 0
IfAt (fault.At at line) P = P at line
IfAt fault.Memory P = Unit {0}

-- the place without a token, and its line
abbrev pub IsFault : List ℕ → LexError → Type 0
IsFault text e = IfAt e (λ at line. IsNoToken text at × (line ≡ line_behind (take at text)))

-- where the text has tokens, these are the answer, unless memory runs out
abbrev pub IsGiven : List ℕ → Result Tokens LexError → Type 0
IsGiven text answer =
    (ts : List Token) → AreTokens text ts
    → MatchResult answer (λ t. t.list ≡ ts) (λ e. e ≡ fault.Memory)

-- these tokens are those of the text beside them
abbrev pub AreLawful : Tokens → Type 0
AreLawful tokens = AreTokens tokens.source tokens.list
