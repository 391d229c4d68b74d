-- The rules of replies, as a map has them.
use Rattle.std.specs.Prelude.{ℕ, ◌==◌, ◌&&◌, Bool, None, if◌then◌else◌}
use Rattle.indexmap.specs.IndexMap.{get}
use Rattle.script_meaning.specs.State as states
use Rattle.script_objects.specs.declared.rules.Rules.{Rules}

abbrev pub same_pair : ℕ × ℕ → ℕ × ℕ → Bool
same_pair p q = (p.0 == q.0) && (p.1 == q.1)

-- the rules by an object's number and a slot
abbrev pub known_rules : Rules → states.Rules
known_rules rules object slot = get same_pair rules.map (object, slot)

-- the rules without that of an object and a slot
abbrev pub without : states.Rules → (object slot : ℕ) → states.Rules
without rules object slot o s = if (object == o) && (slot == s) then None else rules o s
