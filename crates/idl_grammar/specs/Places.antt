-- The one tree of a list of tokens, and the place of a fault where it has none.
use Rattle.std.specs.Prelude.{◌≡◌, ◌≤◌, ◌-◌, ℕ, List, [], ◌∷◌, length, take, drop}
use Rattle.idl_grammar.specs.declared.syntax_error.SyntaxError.{SyntaxError}
use Rattle.idl_grammar.specs.declared.syntax_error.SyntaxError.TheVariants as fault
use Rattle.idl_grammar.specs.Terminals.{Lexeme}
use Rattle.idl_grammar.specs.Rule.{Rule, Reads, Begins}

-- the tree is a reading of the tokens, and the only one
pub record IsOnlyTree {A : Type 0} (r : Rule A) (ts : List Lexeme) (tree : A) : Type 0 where
  pub reads : Reads r ts tree
  pub only : (other : A) → Reads r ts other → other ≡ tree

-- the tokens have no reading
abbrev pub HasNoTree : {A : Type 0} → Rule A → List Lexeme → Type 0
HasNoTree {A} r ts = (tree : A) → Reads r ts tree → ⊥

-- the longest prefix of the tokens that is a prefix form of the rule has this length
pub record IsReach {A : Type 0} (r : Rule A) (ts : List Lexeme) (n : ℕ) : Type 0 where
  pub within : n ≤ length ts
  pub begins : Begins r (take n ts)
  pub most : (m : ℕ) → m ≤ length ts → Begins r (take m ts) → m ≤ n

-- the line of the first token, or this one where there is none
abbrev pub line_or : ℕ → List Lexeme → ℕ
line_or line [] = line
line_or line (t ∷ _) = t.line

abbrev pub last_line : List Lexeme → ℕ
last_line [] = 0
last_line (t ∷ []) = t.line
last_line (_ ∷ t ∷ ts) = last_line (t ∷ ts)

-- the line of the token at a place, or at the end of the last one
abbrev pub line_at : List Lexeme → ℕ → ℕ
line_at ts n = line_or (last_line ts) (drop n ts)

-- the fault at the first of the tokens that are left, of so many; at the end it has the last line
abbrev pub fault_before : (count last : ℕ) → List Lexeme → SyntaxError
fault_before count last rest = fault.At (count - length rest) (line_or last rest)

-- P of the place and the line, where the error names them
abbrev pub IfAt : SyntaxError → (ℕ → ℕ → Type 0) → Type 0
IfAt (fault.At at line) P = P at line
IfAt fault.Memory P = Unit {0}
