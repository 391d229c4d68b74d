-- How the text of a script splits into lines, and a line into words.
use Rattle.std.specs.Prelude.{ℕ, Bool, not, ◌&&◌, ◌||◌, ◌==◌, nat_le, List, [], ◌∷◌, ◌++◌, length, filter}
use Rattle.std.specs.List.{list_all, slice_split, flat_map}
use Rattle.line_words.specs.Words.{Word}

-- spaces and tabs separate words
abbrev pub is_blank : ℕ → Bool
is_blank b = (b == 32) || (b == 9)

-- the words of a line: what stands between its spaces and tabs, where anything does
abbrev pub words : Word → List Word
words line = filter (λ w. not (length w == 0)) (slice_split is_blank line)

-- the words, with a space between each two
abbrev pub joined : List Word → Word
joined [] = []
joined (w ∷ ws) = w ++ flat_map (λ v. 32 ∷ v) ws

-- a line has only tabs and the bytes from 20 to 7e, in hexadecimal
abbrev pub is_plain : Word → Bool
is_plain line = list_all (λ b. (b == 9) || (nat_le 32 b && nat_le b 126)) line
