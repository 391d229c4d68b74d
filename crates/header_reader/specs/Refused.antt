-- What it is that a text declares nothing, and which line is to blame.
use Rattle.std.specs.Prelude.{◌≡◌, ◌≤◌, ◌<◌, ℕ, ◌+◌, List, ◌++◌, length, take}
use Rattle.line_words.specs.Words.{Word}
use Rattle.header_model.specs.declared.decls.Decl.{Decl}
use Rattle.header_model.specs.Declares.{Declares}
use Rattle.header_model.specs.Lines.{lines_of}
use Rattle.header_reader.specs.declared.error.HeaderReadError.{HeaderReadError}
use Rattle.header_reader.specs.declared.error.HeaderReadError.TheVariants.{At, Memory}

-- the lines begin a header: some text that has them first declares some classes
abbrev pub AreBegun : List Word → Type 0
AreBegun lines =
    (text : List ℕ) × (decls : List Decl) × (more : List Word)
    × (lines_of text ≡ lines ++ more) × Declares text decls

-- The text declares nothing, and this line, counted from 1, is the first such that the lines up to
-- it begin no header; where each line is one that a header goes on from, it is one more than the
-- number of lines.
pub record IsRefused (text : List ℕ) (line : ℕ) : Type 0 where
  pub none : (decls : List Decl) → Declares text decls → ⊥
  pub within : (1 ≤ line) × (line ≤ length (lines_of text) + 1)
  pub earlier : (n : ℕ) → n < line → AreBegun (take n (lines_of text))
  pub here : line ≤ length (lines_of text) → AreBegun (take line (lines_of text)) → ⊥

-- what a refusal says of the text
abbrev pub Blames : List ℕ → HeaderReadError → Type 0
Blames text (At line) = IsRefused text line
Blames text Memory = Unit {0}
