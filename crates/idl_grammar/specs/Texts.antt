-- What a text says: a tree, or that it has none, and the line on which that shows.
use Rattle.std.specs.Prelude.{◌≡◌, ◌<◌, ◌^◌, ℕ, List, length, take}
use Rattle.idl_lexer.specs.declared.token.Token.{Token}
use Rattle.idl_lexer.specs.Tokens.{AreTokens, IsNoToken, line_behind}
use Rattle.idl_grammar.specs.declared.tree.IdlFile.{IdlFile}
use Rattle.idl_grammar.specs.Grammar.{file}
use Rattle.idl_grammar.specs.Places.{HasNoTree, IsReach, line_at}
use Rattle.idl_grammar.specs.Rule.{Reads}
use Rattle.idl_grammar.specs.Terminals.{lexemes_of}

-- these are the text's tokens, and the tree is a reading of them
pub record HasTree (bytes : List ℕ) (tree : IdlFile) : Type 0 where
  pub tokens : List Token
  pub spelled : AreTokens bytes tokens
  pub read : Reads file (lexemes_of bytes tokens) tree

-- the text has no tokens: this is the line of the first place at which none begins
abbrev pub LacksToken : List ℕ → ℕ → Type 0
LacksToken bytes line = (at : ℕ) × IsNoToken bytes at × (line ≡ line_behind (take at bytes))

-- The text's tokens have no tree: so many of them are the longest prefix form of a file, and this
-- is the line of the next one, or of the last one at the end.
pub record LacksTree (bytes : List ℕ) (line : ℕ) : Type 0 where
  pub tokens : List Token
  pub spelled : AreTokens bytes tokens
  pub none : HasNoTree file (lexemes_of bytes tokens)
  pub at : ℕ
  pub reach : IsReach file (lexemes_of bytes tokens) at
  pub on_line : line ≡ line_at (lexemes_of bytes tokens) at

-- What a text can say: a tree, or the line at which it has no token, or the line at which its
-- tokens have no tree.
pub data Reading : Type 0 where
  Tree : IdlFile → Reading
  NoToken : ℕ → Reading
  NoTree : ℕ → Reading

-- the text says this
abbrev pub Says : List ℕ → Reading → Type 0
Says bytes (Tree tree) = HasTree bytes tree
Says bytes (NoToken line) = LacksToken bytes line
Says bytes (NoTree line) = LacksTree bytes line

-- the text says something, and one thing alone
pub record IsReadable (bytes : List ℕ) : Type 0 where
  pub some : (r : Reading) × Says bytes r
  pub one : (r q : Reading) → Says bytes r → Says bytes q → r ≡ q

-- the tree is one that a file can have: a reading of the tokens of some text, fewer than 2^32
pub record IsLawfulFile (tree : IdlFile) : Type 0 where
  pub bytes : List ℕ
  pub has : HasTree bytes tree
  pub few : length has.tokens < 2 ^ 32
