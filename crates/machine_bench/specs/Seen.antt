-- What a machine shows, and what a bench tells of what it saw.
use Rattle.std.specs.Prelude.{◌≡◌, ℕ, ◌≤◌, List, [], ◌∷◌, ◌++◌, length, take, Option, Some}
use Rattle.object_memory.specs.Cells.{cell_numbers}
use Rattle.object_memory.specs.Memory.{MachineView}
use Rattle.machine_bench.specs.declared.sight.Sight.{Sight}

-- what a machine shows: frame, numbers in its pushed cells, and the bytes of vtable and heap
abbrev pub sight_of : MachineView → Sight
sight_of m = record {
  gprs = m.frame.gprs;
  fprs = m.frame.fprs;
  stack = m.frame.stack;
  cells = cell_numbers m.cells;
  heap = m.memory;
}

-- The bench saw these sights one after the other, where it tells what it saw.
abbrev pub Saw : (before after : Option (List Sight)) → (sights : List Sight) → Type 0
Saw before after sights =
    (told : List Sight) → before ≡ Some told → after ≡ Some (told ++ sights)

-- It saw some first ones of these.
abbrev pub SawPrefix : (before after : Option (List Sight)) → (sights : List Sight) → Type 0
SawPrefix before after sights =
    (n : ℕ) × (n ≤ length sights) × Saw before after (take n sights)

-- It saw nothing.
abbrev pub SawNothing : (before after : Option (List Sight)) → Type 0
SawNothing before after = Saw before after []

-- It saw the machine once.
abbrev pub SawMachine : (before after : Option (List Sight)) → MachineView → Type 0
SawMachine before after m = Saw before after (sight_of m ∷ [])
