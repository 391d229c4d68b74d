-- Texts that are made of numbered pieces.
use Rattle.std.specs.Prelude.{ℕ, zero, suc, pos, List, [], ◌∷◌, ◌++◌}
use Rattle.xp_base.specs.Digits.{decimal_text}

-- the pieces of the numbers below a count, one after the other
abbrev pub pieces : (piece : ℕ → List ℕ) → (count : ℕ) → List ℕ
pieces piece zero = []
pieces piece (suc n) = pieces piece n ++ piece n

-- a line, ended by LF
abbrev pub line : List ℕ → List ℕ
line text = text ++ 10 ∷ []

-- a number in decimal
abbrev pub decimal : ℕ → List ℕ
decimal n = decimal_text (pos n)
