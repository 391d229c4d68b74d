-- The cells of a call on a machine: the numbers that they hold, and what a call passes from them.
use Rattle.std.specs.Prelude.{◌≡◌, ℕ, ◌*◌, ◌∷◌, List}
use Rattle.std.specs.List.{flat_map}
use Rattle.call_model.specs.declared.prototypes.ProtoArg.{ProtoArg}
use Rattle.call_model.specs.Prototype.{types_of}
use Rattle.call_model.specs.Values.{placed}
use Rattle.object_memory.specs.Cells.{numbers}
use Rattle.object_memory.specs.Memory.{MachineView, cell_bytes, with_cells}
use Rattle.xp_base.specs.LittleEndian.{low_bytes}
use Rattle.invoke_by_index.specs.Calls.{values_in}

-- the numbers in n cells, which stand from the address `base` on
abbrev pub cells_at : MachineView → (base n : ℕ) → List ℕ
cells_at m base n = numbers n (cell_bytes m base (8 * n))

-- the machine whose cells from the address `base` on hold these numbers: nothing else changed
abbrev pub with_numbers : MachineView → (base : ℕ) → List ℕ → MachineView
with_numbers m base values = with_cells m base (flat_map (low_bytes 8) values)

-- a call from the cells of this machine has the frame of a call with these values, whichever its
-- object
abbrev pub PassesValues : MachineView → (base : ℕ) → List ProtoArg → (values : List ℕ) → Type 0
PassesValues m base proto values =
    (this : ℕ)
    → placed m.conv (types_of proto) (this ∷ values_in m base proto)
    ≡ placed m.conv (types_of proto) (this ∷ values)
