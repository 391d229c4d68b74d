-- The table of a scope: what its interfaces and members are to a caller, in the words of the IDL
-- alone. No flag and no tag of a typelib occurs in it but the tag by which the scope names a basic
-- type.
use Rattle.std.specs.Prelude.{ℕ, ◌+◌, ◌==◌, ◌&&◌, Bool, true, false, not, nat_lt, List, [], ◌∷◌, ◌++◌, length, map, Option, Some, None, is_none, if◌then◌else◌}
use Rattle.std.specs.List.{list_any}
use Rattle.xp_base.specs.declared.kinds.Dir.{Dir}
use Rattle.xp_base.specs.declared.kinds.Dir.TheVariants.{Inward, Outward, Both}
use Rattle.call_model.specs.declared.ctypes.CType.{CType}
use Rattle.call_model.specs.declared.ctypes.CType.TheVariants as c
use Rattle.call_model.specs.declared.prototypes.MemberKind.{MemberKind}
use Rattle.call_model.specs.declared.prototypes.MemberKind.TheVariants as kind
use Rattle.call_model.specs.declared.prototypes.Note.{Note}
use Rattle.call_model.specs.declared.prototypes.Note.TheVariants as note
use Rattle.call_model.specs.declared.prototypes.Pass.{Pass}
use Rattle.call_model.specs.declared.prototypes.Pass.TheVariants.{ByValue, ByRef, ByCell}
use Rattle.call_model.specs.declared.prototypes.ProtoArg.{ProtoArg}
use Rattle.call_model.specs.declared.prototypes.Status.{Status}
use Rattle.call_model.specs.declared.prototypes.Status.TheVariants.{Callable, Hidden, NotXpcom, Opaque}
use Rattle.call_model.specs.declared.tables.TableSlot.{TableSlot}
use Rattle.call_model.specs.declared.tables.TableIface.{TableIface}
use Rattle.call_model.specs.declared.tables.Table.{Table}
use Rattle.idl_meaning.specs.declared.scope.Meant.{Meant}
use Rattle.idl_meaning.specs.declared.scope.Meant.TheVariants as meant
use Rattle.idl_meaning.specs.declared.scope.Scope.{Scope}
use Rattle.idl_meaning.specs.declared.scope.ScopeIface.{ScopeIface}
use Rattle.idl_meaning.specs.declared.scope.ScopeParam.{ScopeParam}
use Rattle.idl_meaning.specs.Meaning.{is_class, is_iid}
use Rattle.lib_model.specs.Table.{context_arg, count_arg, type_of_tag}
use Rattle.vtable_layout.specs.Slots.{Slot, own_slots}
use Rattle.prototype_lowering.specs.Directory.{directory_of, iid_of, in_order, number, parent_number}
use Rattle.prototype_lowering.specs.Lowering.{length_of, size_of}

-- ---- types and passing

-- the C type of a basic type; all others are passed by an address
abbrev pub c_type : Meant → CType
c_type (meant.Basic tag) = type_of_tag tag
c_type (meant.Iface k) = c.Ptr
c_type meant.NsidRef = c.Ptr
c_type meant.NsidPtr = c.Ptr
c_type (meant.StringClass tag) = c.Ptr
c_type meant.JsVal = c.Ptr
c_type (meant.Native name) = c.Ptr

-- by its direction, and whether it is an identifier that is passed by its address
abbrev pub pass_by : Dir → Bool → Pass
pass_by Inward nsid = if nsid then ByRef else ByValue
pass_by Outward nsid = ByCell false
pass_by Both nsid = ByCell true

abbrev pub pass_of : ScopeParam → Pass
pass_of p = if is_class p.ty then ByRef else pass_by p.dir (is_iid p.ty && not p.array)

-- ---- prototypes

-- the parameters before the one that gives the value, and that one with what follows
abbrev pub front : List ScopeParam → List ScopeParam
front [] = []
front (p ∷ ps) = if p.retval then [] else (p ∷ front ps)

abbrev pub back : List ScopeParam → List ScopeParam
back [] = []
back (p ∷ ps) = if p.retval then (p ∷ ps) else back ps

abbrev pub is_method : MemberKind → Bool
is_method kind.Plain = true
is_method kind.Get = false
is_method kind.Set = false

-- before all parameters stands the context of a getter and a setter
abbrev pub first : Slot → List ProtoArg
first s = if s.context && not (is_method s.kind) then context_arg ∷ [] else []

-- before the value, or at the end, stand the context of a method and the number of optional
-- arguments
abbrev pub middle : Slot → List ProtoArg
middle s =
    (if s.context && is_method s.kind then context_arg ∷ [] else [])
    ++ (if s.argc then count_arg ∷ [] else [])

-- the position in the prototype of the parameter of this number
abbrev pub position : Slot → ℕ → ℕ
position s k =
    length (first s) + k
    + (if nat_lt k (length (front s.params)) then 0 else length (middle s))

-- how many elements there are, and how many are in use
abbrev pub count_note : Slot → ScopeParam → CType → Note
count_note s p elem = note.Count (position s (size_of p)) (position s (length_of p)) elem

-- a string whose size is told: tag 16 has characters of 8 bits, tag 17 of 16
abbrev pub string_note : Slot → ScopeParam → ℕ → Option ℕ → Note
string_note s p tag None = note.Plain
string_note s p tag (Some size) =
    if tag == 16 then count_note s p c.Char
    else if tag == 17 then count_note s p c.WChar
    else note.Plain

abbrev pub iface_note : List ℕ → Slot → ℕ → Option ℕ → Note
iface_note d s k None = note.IfaceOf (number d k)
iface_note d s k (Some iid) = note.IidAt (position s iid)

abbrev pub native_note : Slot → Option ℕ → Note
native_note s None = note.Plain
native_note s (Some iid) = note.IidAt (position s iid)

abbrev pub note_alone : List ℕ → Slot → ScopeParam → Meant → Note
note_alone d s p (meant.Basic tag) = string_note s p tag p.size
note_alone d s p (meant.Iface k) = iface_note d s k p.iid
note_alone d s p meant.NsidRef = note.Plain
note_alone d s p meant.NsidPtr = note.Plain
note_alone d s p (meant.StringClass tag) = note.Plain
note_alone d s p meant.JsVal = note.Plain
note_alone d s p (meant.Native name) = native_note s p.iid

abbrev pub note_of : List ℕ → Slot → ScopeParam → Note
note_of d s p = if p.array then count_note s p (c_type p.ty) else note_alone d s p p.ty

abbrev pub arg_of : List ℕ → Slot → ScopeParam → ProtoArg
arg_of d s p = record {
  pass = pass_of p;
  ty = if p.array then c.Ptr else c_type p.ty;
  optional = p.optional && not p.retval;
  note = note_of d s p;
}

unfoldable pub proto_of : List ℕ → Slot → List ProtoArg
proto_of d s =
    first s
    ++ (map (arg_of d s) (front s.params) ++ (middle s ++ map (arg_of d s) (back s.params)))

-- ---- slots

-- a value of a script, or of a native type of which nothing is known
abbrev pub is_opaque_meaning : Meant → Option ℕ → Bool
is_opaque_meaning (meant.Basic tag) iid = false
is_opaque_meaning (meant.Iface k) iid = false
is_opaque_meaning meant.NsidRef iid = false
is_opaque_meaning meant.NsidPtr iid = false
is_opaque_meaning (meant.StringClass tag) iid = false
is_opaque_meaning meant.JsVal iid = true
is_opaque_meaning (meant.Native name) iid = is_none iid

-- the parameter, or an element of it where it is an array, has values that no call can pass
abbrev pub is_opaque : ScopeParam → Bool
is_opaque p = is_opaque_meaning p.ty p.iid

-- hidden, notxpcom, a type that no call can pass, or none of these
abbrev pub status_of : Slot → Status
status_of s =
    if s.hidden then Hidden
    else if s.notxpcom then NotXpcom
    else if list_any is_opaque s.params then Opaque
    else Callable

-- only what is callable has a prototype
abbrev pub proto_if : Status → List ℕ → Slot → List ProtoArg
proto_if Callable d s = proto_of d s
proto_if Hidden d s = []
proto_if NotXpcom d s = []
proto_if Opaque d s = []

abbrev pub static_slot : List ℕ → Slot → TableSlot
static_slot d s = record {
  name = s.name;
  kind = s.kind;
  status = status_of s;
  proto = proto_if (status_of s) d s;
}

-- ---- tables

abbrev pub static_iface : List ℕ → ScopeIface → TableIface
static_iface d i = record {
  name = i.name;
  iid = iid_of i;
  resolved = i.defined;
  parent = if i.defined then parent_number d i.parent else 0;
  slots = if i.defined then map (static_slot d) (own_slots i) else [];
}

-- the table of a scope, in the order of the directory
unfoldable pub static_table : Scope → Table
static_table s = record { ifaces = map (static_iface (directory_of s.ifaces)) (in_order s.ifaces) }
