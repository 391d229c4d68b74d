-- The parts of a header's text, as they follow each other.
use Rattle.std.specs.Prelude.{ℕ, List, map}
use Rattle.std.specs.List.{enumerate_from, flat_map}
use Rattle.idl_meaning.specs.declared.scope.ScopeIface.{ScopeIface}
use Rattle.vtable_layout.specs.Slots.{Slot}
use Rattle.header_text.specs.Header.{class_lines, ended, forward_line, slot_line}

-- the forward lines
abbrev pub forwards_text : List ScopeIface → List ℕ
forwards_text ifaces = flat_map (λ i. ended (forward_line i)) ifaces

-- slots that are numbered from this on
abbrev pub slots_text : List ScopeIface → ℕ → List Slot → List ℕ
slots_text ifaces number slots =
    flat_map ended (map (slot_line ifaces) (enumerate_from number slots))

-- the class of the interface of this number
abbrev pub class_text : List ScopeIface → ℕ → List ℕ
class_text ifaces k = flat_map ended (class_lines ifaces k)

-- the classes of these interfaces
abbrev pub classes_text : List ScopeIface → (order : List ℕ) → List ℕ
classes_text ifaces order = flat_map (class_text ifaces) order
