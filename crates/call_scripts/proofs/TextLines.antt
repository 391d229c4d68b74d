-- The lines of a text, where a line feed cuts it.
use Rattle.std.proofs.Common.{◌≡◌, ◌<◌, eqb, List, [], ◌∷◌, length, Some, None, false, refl, ap, ◌∙◌, arith}
use Rattle.std.specs.List.{slice_split}
use Rattle.std.specs.Str.Lines.{lines, strip_carriage_return, lines_of_parts}
use Rattle.std.proofs.lemmas.List.Splits.{slice_split_at, slice_split_none, length-slice_split}
use Rattle.line_words.specs.Words.{Word, cut_at}
use Rattle.line_words.proofs.Marks.{cut_gives, cut_gives_none, lacks_all}

-- a line feed ends the first line
first_part : (line : Word) (parts : List Word) → 0 < length parts → lines_of_parts (line ∷ parts) ≡ strip_carriage_return line ∷ lines_of_parts parts
first_part line [] some = absurd (omega arith)
first_part line (part ∷ parts) some = refl

-- the first line of a text, and those after it
pub lines_cut : (text line rest : Word) → cut_at 10 text ≡ Some (line, rest) → lines text ≡ strip_carriage_return line ∷ lines rest
lines_cut text line rest is =
    let parts = cut_gives 10 text line rest is in
    let split : slice_split (λ b. eqb b 10) text ≡ line ∷ slice_split (λ b. eqb b 10) rest =
    rw parts.0 (slice_split_at (λ b. eqb b 10) line 10 rest (lacks_all 10 line parts.1) refl) in
    let some : 0 < length (slice_split (λ b. eqb b 10) rest) = omega (arith, length-slice_split (λ b. eqb b 10) rest) in
    ap lines_of_parts split ∙ first_part line (slice_split (λ b. eqb b 10) rest) some

-- the last line of a text, where no line feed ends it
pub lines_last : (text : Word) → cut_at 10 text ≡ None → eqb (length text) 0 ≡ false → lines text ≡ text ∷ []
lines_last text is some =
    let split : slice_split (λ b. eqb b 10) text ≡ text ∷ [] = slice_split_none (λ b. eqb b 10) text (lacks_all 10 text (cut_gives_none 10 text is)) in
    ap lines_of_parts split ∙ rw some refl
