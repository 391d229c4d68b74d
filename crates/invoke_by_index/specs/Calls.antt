-- What a call takes from the cells of a machine.
use Rattle.std.specs.Prelude.{ℕ, ◌+◌, List, [], ◌∷◌}
use Rattle.call_model.specs.declared.prototypes.Pass.{Pass}
use Rattle.call_model.specs.declared.prototypes.Pass.TheVariants.{ByValue, ByRef, ByCell}
use Rattle.call_model.specs.declared.prototypes.ProtoArg.{ProtoArg}
use Rattle.object_memory.specs.Memory.{MachineView, cell_bytes}
use Rattle.xp_base.specs.LittleEndian.{number_of}

-- the value that is passed for an argument whose cell stands at an address: the number in the
-- cell, or for a value in a cell the address
abbrev pub passed_value : MachineView → Pass → (cell : ℕ) → ℕ
passed_value m ByValue cell = number_of (cell_bytes m cell 8)
passed_value m ByRef cell = number_of (cell_bytes m cell 8)
passed_value m (ByCell inward) cell = cell

-- the values that are passed for a prototype, whose cells stand from the address `base` on
abbrev pub values_in : MachineView → (base : ℕ) → List ProtoArg → List ℕ
values_in m base [] = []
values_in m base (a ∷ proto) = passed_value m a.pass base ∷ values_in m (base + 8) proto
