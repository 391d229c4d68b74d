-- What `big N` prints: the length of the typelib, and what came of the calls under each convention.
use Rattle.std.specs.Prelude.{ℕ, ◌+◌, ◌-◌, ◌^◌, ◌==◌, List, [], ◌∷◌, ◌++◌, length, min, codes, if◌then◌else◌}
use Rattle.std.specs.List.{slice_split}
use Rattle.std.specs.Str.{bytes_eq}
use Rattle.call_model.specs.declared.places.Conv.{Conv}
use Rattle.call_scripts.specs.Spellings.{conv_word}
use Rattle.big_texts.specs.Numbers.{number_of}
use Rattle.big_texts.specs.Pieces.{line, decimal}

-- the words of a line, and the lines of a text
abbrev pub words_of : List ℕ → List (List ℕ)
words_of text = slice_split (λ b. b == 32) text

abbrev pub lines_of : List ℕ → List (List ℕ)
lines_of text = slice_split (λ b. b == 10) text

-- the value on a line `out POSITION VALUE`, by its words; another line counts as nothing
abbrev pub value_in : (words : List (List ℕ)) → ℕ
value_in (label ∷ position ∷ value ∷ rest) =
    if bytes_eq label (codes "out") then number_of value else 0
value_in _ = 0

-- the sum of the values on some lines
abbrev pub sum_on : (lines : List (List ℕ)) → ℕ
sum_on [] = 0
sum_on (l ∷ lines) = value_in (words_of l) + sum_on lines

-- the sum of the values on the `out` lines of a transcript, 2^128 - 1 at most
abbrev pub outs_of : (transcript : List ℕ) → ℕ
outs_of transcript = min (sum_on (lines_of transcript)) (2 ^ 128 - 1)

abbrev pub typelib_text : (typelib : List ℕ) → List ℕ
typelib_text typelib = line (codes "typelib " ++ decimal (length typelib))

abbrev pub calls_text : Conv → (calls : ℕ) → (transcript : List ℕ) → List ℕ
calls_text conv calls transcript =
    line (conv_word conv ++ (codes " calls " ++ (decimal calls
    ++ (codes " bytes " ++ (decimal (length transcript)
    ++ (codes " outs " ++ decimal (outs_of transcript)))))))
