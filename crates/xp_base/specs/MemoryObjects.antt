-- What the memory objects with scripted failures remember.
use Rattle.std.specs.Prelude.{ℕ, ◌+◌, ◌-◌, ◌^◌, ◌<◌, ◌==◌, List, length, Contains, min, if◌then◌else◌}
use Rattle.xp_base.specs.Files.{Files}

-- A source in memory: its files, the numbers of the fetches that fail, how many fetches there were,
-- and how many failed.
pub record ScriptedFiles : Type 0 where
  pub files : Files
  pub fails : List ℕ
  pub calls : ℕ
  pub faults : ℕ

-- A sink in memory: what was written, how many bytes one put takes at the most, the numbers of the
-- puts that fail, how many puts of a piece that is not empty there were, and how many failed.
pub record ScriptedText : Type 0 where
  pub written : List ℕ
  pub width : ℕ
  pub fails : List ℕ
  pub calls : ℕ
  pub faults : ℕ

-- One more, at most the end of the type, where a count stays.
abbrev pub raised : ℕ → ℕ
raised count = min (count + 1) (2 ^ 64 - 1)

-- how many puts of a piece that is not empty there were, with the put of this piece
abbrev pub calls_with : (calls : ℕ) → (piece : List ℕ) → ℕ
calls_with calls piece = if length piece == 0 then calls else raised calls

-- The put of this piece fails: it is not empty, and its number is among those that are to fail.
abbrev pub PutFails : ScriptedText → (piece : List ℕ) → Type 0
PutFails sink piece = (0 < length piece) × Contains sink.fails (raised sink.calls)
