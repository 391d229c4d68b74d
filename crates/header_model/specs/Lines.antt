-- The lines of a header: how a text falls into them, and one form for each thing that a line says.
use Rattle.std.specs.Prelude.{◌≡◌, ℕ, ◌==◌, true, List, [], ◌∷◌, ◌++◌, codes, Some, None, if◌then◌else◌}
use Rattle.std.specs.List.{list_all}
use Rattle.std.specs.Char.{is_ascii_digit}
use Rattle.line_words.specs.Words.{Word, Each}
use Rattle.header_model.specs.declared.lines.Line.{Line}
use Rattle.header_model.specs.declared.lines.Line.TheVariants.{Forward, Class, Public, Reserved, Method, Close}
use Rattle.header_model.specs.Words.{IsName, IsArgument, joined}

-- a byte before the first line
abbrev pub begun : ℕ → List Word → List Word
begun b [] = (b ∷ []) ∷ []
begun b (line ∷ lines) = (b ∷ line) ∷ lines

-- the lines of a text, each with its line feed, which the last may lack
unfoldable pub lines_of : List ℕ → List Word
lines_of [] = []
lines_of (b ∷ text) = if b == 10 then (10 ∷ []) ∷ lines_of text else begun b (lines_of text)

-- what a line says, its line feed left out
abbrev pub IsForm : Word → Line → Type 0
IsForm w Forward = (name : Word) × (w ≡ codes "class " ++ name ++ codes ";") × IsName name
IsForm w (Class name None) = (w ≡ codes "class " ++ name ++ codes " {") × IsName name
IsForm w (Class name (Some parent)) =
    (w ≡ codes "class " ++ name ++ codes " : public " ++ parent ++ codes " {")
    × IsName name × IsName parent
IsForm w Public = w ≡ codes " public:"
IsForm w (Reserved number) =
    (w ≡ codes "  virtual void xpcall_reserved_" ++ number ++ codes "() = 0;")
    × (list_all is_ascii_digit number ≡ true)
IsForm w (Method name types) =
    (args : List Word)
    × (w ≡ codes "  virtual nsresult " ++ name ++ codes "(" ++ joined args ++ codes ") = 0;")
    × IsName name × Each IsArgument args types
IsForm w Close = w ≡ codes "};"

-- what a line says: a line without its line feed says nothing
abbrev pub IsLine : Word → Line → Type 0
IsLine w line = (text : Word) × (w ≡ text ++ 10 ∷ []) × IsForm text line
