-- What the functions of the parser give, by what the reading of their rule gives.
use Rattle.std.specs.Prelude.{◌≡◌, ◌≢◌, ℕ, List, [], ◌∷◌, ◌++◌, Result, Ok, Err}
use Rattle.std.specs.Borrow.{Bor}
use Rattle.idl_grammar.specs.declared.cursor.Stop.{Stop}
use Rattle.idl_grammar.specs.declared.cursor.Stop.TheVariants as stop
use Rattle.idl_grammar.specs.Terminals.{Lexeme}
use Rattle.idl_grammar.specs.Read.{Outcome, pair, and_then, read}
use Rattle.idl_grammar.specs.Rule.{Rule}

-- the tree and the tokens behind it, or the tokens that cannot go on, unless memory ran out
abbrev pub Gives : {A : Type 0} → Outcome A → Result A Stop → List Lexeme → Type 0
Gives outcome (Ok a) new = outcome ≡ Ok (pair a new)
Gives outcome (Err e) new = e ≢ stop.Memory → outcome ≡ Err new

-- the same of a text that is lent
abbrev pub GivesText : Outcome (List ℕ) → Result (Bor (List ℕ)) Stop → List Lexeme → Type 0
GivesText outcome (Ok a) new = outcome ≡ Ok (pair a.now new)
GivesText outcome (Err e) new = e ≢ stop.Memory → outcome ≡ Err new

-- what is read, put behind what was found before
abbrev pub more : {A B : Type 0} → (A → List B) → List B → Outcome A → Outcome (List B)
more join found outcome = and_then outcome (λ a rest. Ok (pair (found ++ join a) rest))

abbrev pub plain : {A : Type 0} → List A → List A
plain xs = xs

-- whatever is read, only what is left behind it
abbrev pub passed : {A : Type 0} → Outcome A → Outcome (Unit {0})
passed outcome = and_then outcome (λ _ rest. Ok (pair tt rest))

-- The list that grows is what was found at the end, and the tokens behind it are left.
abbrev pub Adds : {A : Type 0} → Outcome (List A)
    → Result (Unit {0}) Stop → List A → List Lexeme → Type 0
Adds outcome (Ok _) found new = outcome ≡ Ok (pair found new)
Adds outcome (Err e) found new = e ≢ stop.Memory → outcome ≡ Err new

-- What the rule reads of the tokens is put behind what was found before, and the tokens behind it
-- are left.
abbrev pub Collects : {A : Type 0} → Rule (List A) → List A → List Lexeme
    → Result (Unit {0}) Stop → List A → List Lexeme → Type 0
Collects rule found tokens result = Adds (more plain found (read rule tokens)) result

-- a reading of all tokens: those that are left cannot go on
abbrev pub alone : {A : Type 0} → A → List Lexeme → Outcome A
alone a [] = Ok (pair a [])
alone a (t ∷ ts) = Err (t ∷ ts)

abbrev pub whole : {A : Type 0} → Outcome A → Outcome A
whole (Ok p) = alone p.0 p.1
whole (Err rest) = Err rest
