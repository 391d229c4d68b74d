-- How what comes out of a call is worded.
use Rattle.std.specs.Prelude.{ℕ, pos, List, ◌∷◌, ◌++◌, codes}
use Rattle.std.specs.List.{join_with_byte}
use Rattle.xp_base.specs.Digits.{decimal_text}
use Rattle.transcript_text.specs.Texts.{ended, labelled}

-- the elements of an array, a space between each two; and where they cannot be told
abbrev pub elements_word : List (List ℕ) → List ℕ
elements_word elements = codes "[" ++ join_with_byte 32 elements ++ codes "]"

abbrev pub no_elements_word : List ℕ
no_elements_word = codes "[?]"

-- in the place of a name that cannot be told
abbrev pub no_name_word : List ℕ
no_name_word = codes "?"

-- what comes out at position k: the value, and what is told beside it
abbrev pub out_text : (k : ℕ) → (value : List ℕ) → (beside : List (List ℕ)) → List ℕ
out_text k value beside =
    ended (labelled (codes "out") (decimal_text (pos k) ∷ value ∷ beside))
