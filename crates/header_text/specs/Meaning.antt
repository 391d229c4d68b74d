-- What the header of a scope is to declare, in the words of the IDL: each defined interface, with
-- its name, its parent and its own slots.
use Rattle.std.specs.Prelude.{ℕ, List, length, map, drop, nat_eq, option_map}
use Rattle.std.specs.List.{position_or_len}
use Rattle.call_model.specs.declared.ctypes.CType.{CType}
use Rattle.call_model.specs.declared.prototypes.Status.{Status}
use Rattle.call_model.specs.declared.prototypes.Status.TheVariants.{Callable, Hidden, NotXpcom, Opaque}
use Rattle.call_model.specs.Prototype.{types_of}
use Rattle.idl_meaning.specs.declared.scope.Scope.{Scope}
use Rattle.idl_meaning.specs.declared.scope.ScopeIface.{ScopeIface}
use Rattle.vtable_layout.specs.Slots.{Slot, inherited, own_of, parent_of}
use Rattle.prototype_lowering.specs.Directory.{directory_of}
use Rattle.prototype_lowering.specs.StaticTable.{proto_of, status_of}
use Rattle.header_model.specs.declared.decls.Decl.{Decl}
use Rattle.header_model.specs.declared.decls.DeclSlot.{DeclSlot}
use Rattle.header_model.specs.declared.decls.DeclSlot.TheVariants as slots
use Rattle.header_text.specs.Types.{name_at}
use Rattle.header_text.specs.Order.{definitions_of}
use Rattle.header_text.specs.Header.{member_name}

-- the types of a prototype's arguments, without the object
abbrev pub types_in : List ScopeIface → Slot → List CType
types_in ifaces s = drop 1 (types_of (proto_of (directory_of ifaces) s))

-- a function where it is callable, and else a reserved slot
abbrev pub declared_by : Status → List ScopeIface → Slot → DeclSlot
declared_by Callable ifaces s = slots.Method (member_name s.kind s.name) (types_in ifaces s)
declared_by Hidden ifaces s = slots.Reserved
declared_by NotXpcom ifaces s = slots.Reserved
declared_by Opaque ifaces s = slots.Reserved

abbrev pub declared_slot : List ScopeIface → Slot → DeclSlot
declared_slot ifaces s = declared_by (status_of s) ifaces s

-- the number of an interface's class in the header
abbrev pub class_number : List ScopeIface → ℕ → ℕ
class_number ifaces k = position_or_len (nat_eq k) (definitions_of ifaces)

abbrev pub declared_class : List ScopeIface → ℕ → Decl
declared_class ifaces k = record {
  name = name_at ifaces k;
  parent = option_map (class_number ifaces) (parent_of ifaces k);
  first = length (inherited ifaces k);
  slots = map (declared_slot ifaces) (own_of ifaces k);
}

abbrev pub declared : Scope → List Decl
declared s = map (declared_class s.ifaces) (definitions_of s.ifaces)
