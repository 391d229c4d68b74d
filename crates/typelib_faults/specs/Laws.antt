-- What the first fault says: bytes are a typelib where they have none, and else it names their
-- first one.
use Rattle.std.specs.Prelude.{◌≡◌, List, ℕ, Some, None}
use Rattle.typelib_faults.specs.declared.faults.BadTypelib.{BadTypelib}
use Rattle.typelib_faults.specs.Faults.{first_fault}

abbrev pub IsFine : List ℕ → Type 0
IsFine x = first_fault x ≡ None

abbrev pub FirstFault : List ℕ → BadTypelib → Type 0
FirstFault x e = first_fault x ≡ Some e
