-- Registers by their names.
use Rattle.std.specs.Prelude.{ℕ, ◌<◌, List, map}
use Rattle.std.specs.Borrow.{Bor}
use Rattle.call_model.specs.declared.places.Loc.{Loc}
use Rattle.call_model.specs.declared.places.Loc.TheVariants.{Gpr, Fpr, Stack}
use Rattle.call_model.specs.Values.{frame_registers}

-- the texts that are lent
abbrev pub texts : List (Bor (List ℕ)) → List (List ℕ)
texts names = map (λ n. n.now) names

-- the location is a register of a frame
abbrev pub IsRegister : Loc → Type 0
IsRegister (Gpr r) = r < frame_registers
IsRegister (Fpr r) = r < frame_registers
IsRegister (Stack at) = ⊥
