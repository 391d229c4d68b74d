-- The terminal symbols of the grammar, and which tokens they are.
use Rattle.std.specs.Prelude.{◌≡◌, ◌⊎◌, ℕ, Bool, ◌&&◌, ◌==◌, List, codes, map}
use Rattle.std.specs.Str.{bytes_eq}
use Rattle.idl_lexer.specs.declared.token.Kind.{Kind}
use Rattle.idl_lexer.specs.declared.token.Kind.TheVariants as kind
use Rattle.idl_lexer.specs.declared.token.Token.{Token}
use Rattle.idl_lexer.specs.declared.token.Tokens.{Tokens}
use Rattle.idl_lexer.specs.Tokens.{spelling_of}
use Rattle.idl_grammar.specs.declared.terminal.Key.{Key}
use Rattle.idl_grammar.specs.declared.terminal.Key.TheVariants as key
use Rattle.idl_grammar.specs.declared.terminal.Mark.{Mark}
use Rattle.idl_grammar.specs.declared.terminal.Mark.TheVariants as mark
use Rattle.idl_grammar.specs.declared.terminal.Terminal.{Terminal}
use Rattle.idl_grammar.specs.declared.terminal.Terminal.TheVariants as terminal
use Rattle.idl_grammar.specs.Spellings.{Parted, Include, Native}

-- a token, as the grammar knows it: its kind, its bytes, and the line of its first byte
pub record Lexeme : Type 0 where
  pub kind : Kind
  pub text : List ℕ
  pub line : ℕ

-- a token of a text
abbrev pub lexeme_of : List ℕ → Token → Lexeme
lexeme_of source token =
    record { kind = token.kind; text = spelling_of source token; line = token.line }

-- the tokens of a text
abbrev pub lexemes_of : List ℕ → List Token → List Lexeme
lexemes_of source tokens = map (lexeme_of source) tokens

-- the tokens of the text beside them
abbrev pub lexemes : Tokens → List Lexeme
lexemes tokens = lexemes_of tokens.source tokens.list

-- how a keyword is spelled
abbrev pub key_spelling : Key → List ℕ
key_spelling key.Attribute = codes "attribute"
key_spelling key.Boolean = codes "boolean"
key_spelling key.Char = codes "char"
key_spelling key.Const = codes "const"
key_spelling key.Double = codes "double"
key_spelling key.Float = codes "float"
key_spelling key.In = codes "in"
key_spelling key.InOut = codes "inout"
key_spelling key.Interface = codes "interface"
key_spelling key.Long = codes "long"
key_spelling key.Octet = codes "octet"
key_spelling key.Out = codes "out"
key_spelling key.Raises = codes "raises"
key_spelling key.ReadOnly = codes "readonly"
key_spelling key.Short = codes "short"
key_spelling key.String = codes "string"
key_spelling key.Typedef = codes "typedef"
key_spelling key.Unsigned = codes "unsigned"
key_spelling key.Void = codes "void"
key_spelling key.WChar = codes "wchar"
key_spelling key.WString = codes "wstring"

-- how a mark is spelled
abbrev pub mark_spelling : Mark → List ℕ
mark_spelling mark.LParen = codes "("
mark_spelling mark.RParen = codes ")"
mark_spelling mark.LBracket = codes "["
mark_spelling mark.RBracket = codes "]"
mark_spelling mark.LBrace = codes "{"
mark_spelling mark.RBrace = codes "}"
mark_spelling mark.Comma = codes ","
mark_spelling mark.Semi = codes ";"
mark_spelling mark.Colon = codes ":"
mark_spelling mark.Equals = codes "="
mark_spelling mark.Plus = codes "+"
mark_spelling mark.Minus = codes "-"
mark_spelling mark.Star = codes "*"
mark_spelling mark.Bar = codes "|"
mark_spelling mark.Shl = codes "<<"
mark_spelling mark.Shr = codes ">>"

-- the keyword `native`, which begins a token of its own and is no symbol, or one of these
abbrev pub IsKeyText : List ℕ → Type 0
IsKeyText text = (text ≡ codes "native") ⊎ ((k : Key) × (text ≡ key_spelling k))

abbrev pub IsMarkText : List ℕ → Type 0
IsMarkText text = (m : Mark) × (text ≡ mark_spelling m)

-- a number for each kind
abbrev pub kind_number : Kind → ℕ
kind_number kind.Word = 0
kind_number kind.Key = 1
kind_number kind.Number = 2
kind_number kind.Iid = 3
kind_number kind.Include = 4
kind_number kind.Code = 5
kind_number kind.Native = 6
kind_number kind.Mark = 7

unfoldable pub same_kind : Kind → Kind → Bool
same_kind one other = kind_number one == kind_number other

-- whether a token of this kind and spelling is the symbol
unfoldable pub is_symbol : Terminal → Kind → List ℕ → Bool
is_symbol terminal.Word what text = same_kind what kind.Word
is_symbol terminal.Number what text = same_kind what kind.Number
is_symbol terminal.Iid what text = same_kind what kind.Iid
is_symbol terminal.Include what text = same_kind what kind.Include
is_symbol terminal.Code what text = same_kind what kind.Code
is_symbol terminal.Native what text = same_kind what kind.Native
is_symbol (terminal.Key k) what text = same_kind what kind.Key && bytes_eq text (key_spelling k)
is_symbol (terminal.Mark m) what text = same_kind what kind.Mark && bytes_eq text (mark_spelling m)

abbrev pub fits : Lexeme → Terminal → Bool
fits token symbol = is_symbol symbol token.kind token.text

-- the symbol of a spelling that has parts
abbrev pub symbol_of : {A : Type 0} → Parted A → Terminal
symbol_of Include = terminal.Include
symbol_of Native = terminal.Native
