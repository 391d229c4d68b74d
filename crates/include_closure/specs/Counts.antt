-- How many items the open files of a closure have.
use Rattle.std.specs.Prelude.{ℕ, ◌+◌, ◌-◌, All, List, length, sum_by}
use Rattle.idl_grammar.specs.Texts.{IsLawfulFile}
use Rattle.include_closure.specs.declared.visited.Frame.{Frame}

-- of files that are being followed: their items, and those that were not yet looked at
abbrev pub items_open : List Frame → ℕ
items_open frames = sum_by (λ (f : Frame). length f.file.items) frames

abbrev pub items_left : List Frame → ℕ
items_left frames = sum_by (λ (f : Frame). length f.file.items - f.next) frames

abbrev pub AreLawfulFrames : List Frame → Type 0
AreLawfulFrames frames = All (λ (f : Frame). IsLawfulFile f.file) frames
