-- How a text falls into lines.
use Rattle.std.proofs.Common.{◌≡◌, ℕ, true, not, eqb, [], ◌∷◌, ◌++◌, refl}
use Rattle.line_words.specs.Words.{Word}
use Rattle.line_words.proofs.Choices.{both, not_true}
use Rattle.line_words.proofs.Marks.{lacks}
use Rattle.header_model.specs.Lines.{lines_of}

-- a line feed ends the first line
pub lines_first : (a rest : Word) → lacks 10 a ≡ true → lines_of (a ++ 10 ∷ rest) ≡ (a ++ 10 ∷ []) ∷ lines_of rest
unfolding lines_of
lines_first [] rest h = refl
lines_first (b ∷ a) rest h =
    let parts = both (not (eqb b 10)) (lacks 10 a) h in rw (not_true (eqb b 10) parts.0, lines_first a rest parts.1) refl

-- a text without one is one line
pub lines_open : (b : ℕ) (a : Word) → lacks 10 (b ∷ a) ≡ true → lines_of (b ∷ a) ≡ (b ∷ a) ∷ []
unfolding lines_of
lines_open b [] h = rw (not_true (eqb b 10) (both (not (eqb b 10)) true h).0) refl
lines_open b (c ∷ a) h =
    let parts = both (not (eqb b 10)) (lacks 10 (c ∷ a)) h in rw (not_true (eqb b 10) parts.0, lines_open c a parts.1) refl

pub no_lines : lines_of [] ≡ []
unfolding lines_of
no_lines = refl
