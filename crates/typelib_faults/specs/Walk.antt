-- Parts that stand one after the other, where each part's end is known from its bytes: the first
-- fault among n of them, where they end, and their values. A state is a place, or a place with a
-- number of items.
use Rattle.std.specs.Prelude.{ℕ, zero, suc, List, [], ◌∷◌, Option, Some, None, Bool, if◌then◌else◌}
use Rattle.typelib_faults.specs.declared.faults.BadTypelib.{BadTypelib}

infixl 10 ◌orelse◌
-- the first fault of two
abbrev pub ◌orelse◌ : Option BadTypelib → Option BadTypelib → Option BadTypelib
(Some f) orelse g = Some f
None orelse g = g

-- a fault where a test holds
abbrev pub faulty : Bool → ℕ → ℕ → Option BadTypelib
faulty b code p = if b then Some (record { code = code; at = p }) else None

abbrev pub walk : {S : Type 0} → (S → Option BadTypelib) → (S → S) → S → ℕ → Option BadTypelib
walk fault next s zero = None
walk fault next s (suc n) = fault s orelse walk fault next (next s) n

abbrev pub reach : {S : Type 0} → (S → S) → S → ℕ → S
reach next s zero = s
reach next s (suc n) = reach next (next s) n

abbrev pub values : {S A : Type 0} → (S → A) → (S → S) → S → ℕ → List A
values value next s zero = []
values value next s (suc n) = value s ∷ values value next (next s) n
