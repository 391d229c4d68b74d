-- Conditions of which the first that does not hold refuses a line.
use Rattle.std.specs.Prelude.{Bool, true, false, not, List, [], ◌∷◌, option_and_then, option_map, Option, Some, None, Result, Ok, Err}
use Rattle.transcript_text.specs.declared.refusals.Refusal.{Refusal}

infixl 10 ◌then◌
abbrev pub ◌then◌ : {A B : Type 0} → Result A Refusal → (A → Result B Refusal) → Result B Refusal
(Ok v) then f = f v
(Err e) then f = Err e

-- what there is
abbrev pub there_is : {A : Type 0} → Option A → Refusal → Result A Refusal
there_is (Some v) e = Ok v
there_is None e = Err e

-- a condition that must hold, and one that must not
abbrev pub require : Bool → Refusal → Result (Unit {0}) Refusal
require true e = Ok tt
require false e = Err e

abbrev pub refuse : Bool → Refusal → Result (Unit {0}) Refusal
refuse bad e = require (not bad) e

-- nothing is at fault; or else the refusal tells what is
abbrev pub no_fault : {A : Type 0} → Option A → (A → Refusal) → Result (Unit {0}) Refusal
no_fault None e = Ok tt
no_fault (Some fault) e = Err (e fault)

-- each element, where there is something for all
abbrev pub each_of : {A B : Type 0} → (A → Option B) → List A → Option (List B)
each_of f [] = Some []
each_of f (x ∷ xs) =
    option_and_then (λ y. option_map (λ ys. y ∷ ys) (each_of f xs)) (f x)
