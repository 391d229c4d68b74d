-- What the views of a library stand for, and what they are asked.
use Rattle.std.specs.Prelude.{ℕ, zero, suc, ◌+◌, ◌*◌, Bool, ◌&&◌, is_some, option_map, List, [], ◌∷◌, length, slice_get, Option, Some, None, if◌then◌else◌, nat_lt}
use Rattle.std.specs.List.{position}
use Rattle.std.specs.Str.{bytes_eq}
use Rattle.call_model.specs.Tables.{first_slot}
use Rattle.lib_model.specs.declared.contents.Library.{Library}
use Rattle.lib_model.specs.declared.contents.Body.{Body}
use Rattle.lib_model.specs.declared.contents.Iface.{Iface}
use Rattle.lib_model.specs.declared.contents.Constant.{Constant}
use Rattle.lib_model.specs.declared.flags.IfaceFlags.{IfaceFlags}
use Rattle.lib_model.specs.declared.contents.Method.{Method}
use Rattle.typelib_faults.specs.declared.cursor.Cursor.{Cursor}
use Rattle.typelib_faults.specs.Places.{directory_of, entry_at}
use Rattle.lib_model.specs.Table.{methods_in, table_of}
use Rattle.lib_model.specs.Valid.{body_of}

-- the cursor at a place, with no items before it
abbrev pub first_at : ℕ → Cursor
first_at p = record { place = p; items = 0 }

-- an interface of a library, by its number counted from 1
pub record IfaceOf : Type 0 where
  pub library : Library
  pub number : ℕ

-- a method of a library, and its slot in its interface
pub record MethodOf : Type 0 where
  pub library : Library
  pub method : Method
  pub slot : ℕ

abbrev pub nth_iface : List Iface → ℕ → Option Iface
nth_iface ifaces zero = None
nth_iface ifaces (suc k) = slice_get ifaces k

abbrev pub iface_of : IfaceOf → Option Iface
iface_of v = nth_iface v.library.ifaces v.number

-- the interface of this number, where there is one
abbrev pub numbered : Library → ℕ → Option IfaceOf
numbered lib zero = None
numbered lib (suc k) =
    if nat_lt k (length lib.ifaces) then Some (record { library = lib; number = suc k }) else None

-- a resolved interface of this name, and of this identifier
abbrev pub is_named : List ℕ → Iface → Bool
is_named name i = is_some i.body && bytes_eq i.name name

abbrev pub has_iid : List ℕ → Iface → Bool
has_iid iid i = is_some i.body && bytes_eq i.iid iid

-- the number, counted from 1, of the first interface that passes a test
abbrev pub first_number : (Iface → Bool) → Library → Option ℕ
first_number test lib = option_map (λ k. k + 1) (position test lib.ifaces)

-- the entry of the interface that has so many before it
abbrev pub entry_after : List ℕ → ℕ → Iface
entry_after x k = entry_at x (directory_of x + 28 * k)

-- the flags of an interface that has this body; none without one
abbrev pub flags_in : Option Body → IfaceFlags
flags_in None = record { bits = 0 }
flags_in (Some b) = b.flags

-- the own constants of an interface that has this body; none without one
abbrev pub constants_in : Option Body → List Constant
constants_in None = []
constants_in (Some b) = b.constants

-- methods of a library that stand in the slots from one on
abbrev pub in_slots : Library → ℕ → List Method → List MethodOf
in_slots lib slot [] = []
in_slots lib slot (m ∷ ms) =
    record { library = lib; method = m; slot = slot } ∷ in_slots lib (slot + 1) ms

-- the own methods of an interface, with their slots
abbrev pub own_methods_of : IfaceOf → List MethodOf
own_methods_of v =
    in_slots v.library (first_slot (table_of v.library) v.number)
    (methods_in (body_of v.library.ifaces v.number))

-- its own constants
abbrev pub own_constants_of : IfaceOf → List Constant
own_constants_of v = constants_in (body_of v.library.ifaces v.number)
