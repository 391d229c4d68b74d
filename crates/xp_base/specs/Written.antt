-- What a sink tells of the bytes that were written to it.
use Rattle.std.specs.Prelude.{ℕ, ◌≡◌, ◌≤◌, List, [], ◌++◌, length, take, Option, Some}

-- The sink gained this text at its end, where it tells what was written.
abbrev pub Gained : (before after : Option (List ℕ)) → (text : List ℕ) → Type 0
Gained before after text =
    (told : List ℕ) → before ≡ Some told → after ≡ Some (told ++ text)

-- The sink gained the first n bytes of this text, where it tells what was written.
abbrev pub GainedFirst : (before after : Option (List ℕ)) → (text : List ℕ) → ℕ → Type 0
GainedFirst before after text n = Gained before after (take n text)

-- The sink gained some first bytes of this text, where it tells what was written.
abbrev pub GainedPrefix : (before after : Option (List ℕ)) → (text : List ℕ) → Type 0
GainedPrefix before after text =
    (n : ℕ) × (n ≤ length text) × GainedFirst before after text n

-- The sink gained nothing, where it tells what was written.
abbrev pub GainedNothing : (before after : Option (List ℕ)) → Type 0
GainedNothing before after = Gained before after []
