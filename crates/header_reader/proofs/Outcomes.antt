-- The lines of a text, and what they come to line by line.
use Rattle.std.proofs.Common.{◌≡◌, ℕ, ◌+◌, true, false, not, eqb, List, [], ◌∷◌, ◌++◌, length, Option, Some, None, Err, refl, sym, subst}
use Rattle.std.specs.Option.{option_map_or}
use Rattle.std.proofs.lemmas.Bool.{false≢true, eqb-true}
use Rattle.std.proofs.lemmas.List.{nil_from_length}
use Rattle.line_words.specs.Words.{Word, ◌>>=◌, before, cut_at}
use Rattle.line_words.proofs.Choices.{both, not_true}
use Rattle.line_words.proofs.Marks.{cut_gives, cut_gives_none, lacks}
use Rattle.line_words.proofs.Prefixes.{before_read, before_spelled}
use Rattle.header_model.specs.declared.decls.Decl.{Decl}
use Rattle.header_model.specs.declared.states.State.{State}
use Rattle.header_model.specs.Lines.{lines_of}
use Rattle.header_model.proofs.TextLines.{lines_first, lines_open, no_lines}
use Rattle.header_model.specs.declared.states.State.TheVariants.{Between, Begun, Inside}
use Rattle.header_reader.specs.Reading.{behind_of, finish, form_of, line_of, outcome}

-- ---- what a line says

pub line_whole : (a : Word) → line_of (a ++ 10 ∷ []) ≡ form_of a
unfolding line_of
line_whole a = rw (before_spelled (10 ∷ []) a) refl

has_mark : (a rest : Word) → lacks 10 (a ++ 10 ∷ rest) ≡ true → ⊥
has_mark [] rest h = false≢true h
has_mark (b ∷ a) rest h = has_mark a rest (both (not (eqb b 10)) (lacks 10 (a ++ 10 ∷ rest)) h).1

pub line_cut_off : (w : Word) → lacks 10 w ≡ true → line_of w ≡ None
unfolding line_of
line_cut_off w h = by_end (before (10 ∷ []) w) refl
  where
    by_end : (o : Option Word) → before (10 ∷ []) w ≡ o → (o >>= form_of) ≡ None
    by_end None is = refl
    by_end (Some a) is = absurd (has_mark a [] (subst (λ v. lacks 10 v ≡ true) (before_read (10 ∷ []) w a is) h))

-- ---- one line more

pub outcome_cut : (from : State) (number : ℕ) (text line rest : Word) → cut_at 10 text ≡ Some (line, rest)
    → outcome from number (lines_of text) ≡ option_map_or (λ next. outcome next (number + 1) (lines_of rest)) (behind_of from line) (Err number)
outcome_cut from number text line rest is =
    let parts = cut_gives 10 text line rest is in rw (parts.0, lines_first line rest parts.1, line_whole line) refl

pub outcome_open : (from : State) (number : ℕ) (text : Word) → cut_at 10 text ≡ None → eqb (length text) 0 ≡ false → outcome from number (lines_of text) ≡ Err number
outcome_open from number [] is some = absurd (false≢true (sym some))
outcome_open from number (b ∷ a) is some =
    let free = cut_gives_none 10 (b ∷ a) is in rw (lines_open b a free, line_cut_off (b ∷ a) free) refl

-- ---- the end of a text

pub outcome_end : (from : State) (number : ℕ) (text : Word) → eqb (length text) 0 ≡ true → outcome from number (lines_of text) ≡ finish from number
outcome_end from number text is = rw (nil_from_length text (eqb-true (length text) 0 is), no_lines) refl

pub end_open : (from : State) (number : ℕ) → ((decls : List Decl) → from ≡ Between decls → ⊥) → finish from number ≡ Err number
end_open (Between decls) number other = absurd (other decls refl)
end_open (Begun decls decl) number other = refl
end_open (Inside decls decl) number other = refl
