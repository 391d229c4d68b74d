-- Lines of words, and lists of words that are marked.
use Rattle.std.specs.Prelude.{ℕ, Bool, List, [], ◌∷◌, ◌++◌, codes, filter, map}
use Rattle.std.specs.List.{flat_map, join_with_byte}
use Rattle.dump_text.specs.declared.lines.TheConstants.{LF, SPACE}

-- a line: words with a space between each two, ended by LF
abbrev pub line : List (List ℕ) → List ℕ
line words = join_with_byte SPACE words ++ LF ∷ []

-- words, each behind a space
abbrev pub spaced : List (List ℕ) → List ℕ
spaced words = flat_map (λ word. SPACE ∷ word) words

-- words with a separator between each two; `-` stands for no words
abbrev pub listed : (separator : ℕ) → List (List ℕ) → List ℕ
listed separator [] = codes "-"
listed separator (word ∷ words) = join_with_byte separator (word ∷ words)

-- the same of the words whose mark is set
abbrev pub marked : (separator : ℕ) → List (Bool × List ℕ) → List ℕ
marked separator words = listed separator (map (λ w. w.1) (filter (λ w. w.0) words))
