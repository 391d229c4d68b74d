-- The table of a library: what its interfaces and methods are to a caller. It is read off the flags
-- and tags of the XPCOM typelib format.
use Rattle.std.specs.Prelude.{◌≡◌, ◌<◌, option_map, slice_get, ℕ, zero, suc, ◌+◌, ◌==◌, ◌&&◌, ◌||◌, not, Bool, false, nat_lt, List, [], ◌∷◌, ◌++◌, length, map, take, drop, Option, Some, None, is_some, if◌then◌else◌}
use Rattle.std.specs.List.{list_any, slice_index_or}
use Rattle.std.specs.Int.RustNames.{bit_and}
use Rattle.call_model.specs.declared.ctypes.CType.{CType}
use Rattle.call_model.specs.declared.ctypes.CType.TheVariants as c
use Rattle.call_model.specs.declared.prototypes.MemberKind.{MemberKind}
use Rattle.call_model.specs.declared.prototypes.MemberKind.TheVariants as kind
use Rattle.call_model.specs.declared.prototypes.Note.{Note}
use Rattle.call_model.specs.declared.prototypes.Note.TheVariants as note
use Rattle.call_model.specs.declared.prototypes.Pass.{Pass}
use Rattle.call_model.specs.declared.prototypes.Pass.TheVariants.{ByValue, ByRef, ByCell}
use Rattle.call_model.specs.declared.prototypes.ProtoArg.{ProtoArg}
use Rattle.call_model.specs.declared.prototypes.Status.{Status}
use Rattle.call_model.specs.declared.prototypes.Status.TheVariants.{Callable, Hidden, NotXpcom, Opaque}
use Rattle.call_model.specs.declared.tables.TableSlot.{TableSlot}
use Rattle.call_model.specs.declared.tables.TableIface.{TableIface}
use Rattle.call_model.specs.declared.tables.Table.{Table}
use Rattle.lib_model.specs.declared.contents.Library.{Library}
use Rattle.lib_model.specs.declared.contents.Iface.{Iface}
use Rattle.lib_model.specs.declared.contents.Body.{Body}
use Rattle.lib_model.specs.declared.contents.Method.{Method}
use Rattle.lib_model.specs.declared.flags.MethodFlags.{MethodFlags}
use Rattle.lib_model.specs.declared.param_types.Param.{Param}
use Rattle.lib_model.specs.declared.param_types.XType.{XType}
use Rattle.lib_model.specs.declared.param_types.XType.TheVariants as types
use Rattle.lib_model.specs.declared.param_types.Elem.{Elem}
use Rattle.lib_model.specs.declared.param_types.Elem.TheVariants as elems
use Rattle.lib_model.specs.declared.flags.TheConstants.MethodFlags.{GETTER, SETTER, NOTXPCOM, HIDDEN, OPTIONAL_ARGC, IMPLICIT_JSCONTEXT}
use Rattle.lib_model.specs.declared.flags.TheConstants.ParamFlags.{IN, OUT, RETVAL, OPTIONAL}
use Rattle.lib_model.specs.declared.tags.TheConstants as tags
use Rattle.lib_model.specs.Valid.{body_of, parent_in, parent_of, tag_of, tag_of_elem}

-- whether a flag is among the bits of a flag set
abbrev pub has : ℕ → ℕ → Bool
has bits flag = bit_and bits flag == flag

-- ---- types

-- the C types of the tags 0 to 12, which are those of numbers, truth values and characters
abbrev pub value_types : List CType
value_types =
    c.I8 ∷ c.I16 ∷ c.I32 ∷ c.I64 ∷ c.U8 ∷ c.U16 ∷ c.U32 ∷ c.U64
    ∷ c.F32 ∷ c.F64 ∷ c.Bool ∷ c.Char ∷ c.WChar ∷ []

-- the C type of a tag: a pointer for all others
abbrev pub type_of_tag : ℕ → CType
type_of_tag tag = slice_index_or value_types tag c.Ptr

abbrev pub c_type : XType → CType
c_type ty = type_of_tag (tag_of ty)

abbrev pub elem_type : Elem → CType
elem_type elem = type_of_tag (tag_of_elem elem)

-- the tags of the string classes
abbrev pub is_string_class : ℕ → Bool
is_string_class tag =
    (tag == tags.DOMSTRING) || (tag == tags.UTF8STRING) || (tag == tags.CSTRING)
    || (tag == tags.ASTRING)

-- ---- members

-- what the flags of a method say that its slot is
abbrev pub kind_of_flags : MethodFlags → MemberKind
kind_of_flags flags =
    if has flags.bits GETTER.bits then kind.Get
    else if has flags.bits SETTER.bits then kind.Set
    else kind.Plain

abbrev pub kind_of : Method → MemberKind
kind_of m = kind_of_flags m.flags

-- void, which stands for a native type, and jsval
abbrev pub is_opaque_tag : ℕ → Bool
is_opaque_tag tag = (tag == tags.VOID) || (tag == tags.JSVAL)

abbrev pub is_opaque_elem : Elem → Bool
is_opaque_elem (elems.Plain tag) = is_opaque_tag tag || is_string_class tag
is_opaque_elem (elems.Iface number) = false
is_opaque_elem (elems.IidIs param) = false

-- a type whose values no call can pass
abbrev pub is_opaque : XType → Bool
is_opaque (types.Plain tag) = is_opaque_tag tag
is_opaque (types.Iface number) = false
is_opaque (types.IidIs param) = false
is_opaque (types.Array size len elem) = is_opaque_elem elem
is_opaque (types.SizedString size len) = false
is_opaque (types.SizedWString size len) = false

-- hidden, notxpcom, a type that no call can pass, or none of these
abbrev pub status_of : Method → Status
status_of m =
    if has m.flags.bits HIDDEN.bits then Hidden
    else if has m.flags.bits NOTXPCOM.bits then NotXpcom
    else if list_any (λ (p : Param). is_opaque p.ty) m.params then Opaque
    else Callable

-- ---- prototypes

abbrev pub pass_of : Param → Pass
pass_of p =
    if is_string_class (tag_of p.ty) then ByRef
    else if has p.flags.bits OUT.bits then ByCell (has p.flags.bits IN.bits)
    else if tag_of p.ty == tags.NSID then ByRef
    else ByValue

-- the last parameter, where it gives the method's value, and those before it
abbrev pub gives_value : Param → Bool
gives_value p = has p.flags.bits RETVAL.bits

abbrev pub written_count : List Param → ℕ
written_count [] = 0
written_count (p ∷ []) = if gives_value p then 0 else 1
written_count (p ∷ q ∷ ps) = 1 + written_count (q ∷ ps)

-- the address of the scripting context
abbrev pub context_arg : ProtoArg
context_arg = record { pass = ByValue; ty = c.Ptr; optional = false; note = note.Context }

-- the number of optional arguments that were given
abbrev pub count_arg : ProtoArg
count_arg = record { pass = ByValue; ty = c.U8; optional = false; note = note.Argc }

abbrev pub is_attribute : Method → Bool
is_attribute m = has m.flags.bits GETTER.bits || has m.flags.bits SETTER.bits

abbrev pub takes_context : Method → Bool
takes_context m = has m.flags.bits IMPLICIT_JSCONTEXT.bits

abbrev pub takes_count : Method → Bool
takes_count m = has m.flags.bits OPTIONAL_ARGC.bits

-- the arguments before all parameters: in a getter and a setter the context
abbrev pub first_args : Method → List ProtoArg
first_args m = if takes_context m && is_attribute m then context_arg ∷ [] else []

-- those before the value that the method gives, or at the end: elsewhere the context, and the
-- number of optional arguments
abbrev pub middle_args : Method → List ProtoArg
middle_args m =
    (if takes_context m && not (is_attribute m) then context_arg ∷ [] else [])
    ++ (if takes_count m then count_arg ∷ [] else [])

-- the position in the prototype of the parameter of this number
abbrev pub position_in : Method → ℕ → ℕ
position_in m k =
    length (first_args m) + k
    + (if nat_lt k (written_count m.params) then 0 else length (middle_args m))

abbrev pub note_of : Method → XType → Note
note_of m (types.Plain tag) = note.Plain
note_of m (types.Iface number) = note.IfaceOf number
note_of m (types.IidIs param) = note.IidAt (position_in m param)
note_of m (types.Array size len elem) =
    note.Count (position_in m size) (position_in m len) (elem_type elem)
note_of m (types.SizedString size len) =
    note.Count (position_in m size) (position_in m len) c.Char
note_of m (types.SizedWString size len) =
    note.Count (position_in m size) (position_in m len) c.WChar

abbrev pub arg_of : Method → Param → ProtoArg
arg_of m p = record {
  pass = pass_of p;
  ty = c_type p.ty;
  optional = has p.flags.bits OPTIONAL.bits && not (gives_value p);
  note = note_of m p.ty;
}

-- the prototype of a method, without the object's address: an argument for each parameter, and
-- those that are added
unfoldable pub proto_of : Method → List ProtoArg
proto_of m =
    first_args m ++ (map (arg_of m) (take (written_count m.params) m.params)
    ++ (middle_args m ++ map (arg_of m) (drop (written_count m.params) m.params)))

-- at the position of a parameter stands its argument, and no such position lies past the end of
-- the prototype
pub record HasPositions (m : Method) : Type 0 where
  pub argument : (k : ℕ)
      → slice_get (proto_of m) (position_in m k) ≡ option_map (arg_of m) (slice_get m.params k)
  pub inside : (k : ℕ) → k < length m.params → position_in m k < length (proto_of m)

-- ---- tables

abbrev pub proto_if : Status → Method → List ProtoArg
proto_if Callable m = proto_of m
proto_if Hidden m = []
proto_if NotXpcom m = []
proto_if Opaque m = []

abbrev pub slot_of : Method → TableSlot
slot_of m = record {
  name = m.name;
  kind = kind_of m;
  status = status_of m;
  proto = proto_if (status_of m) m;
}

abbrev pub methods_in : Option Body → List Method
methods_in None = []
methods_in (Some b) = b.methods

abbrev pub table_iface : Iface → TableIface
table_iface i = record {
  name = i.name;
  iid = i.iid;
  resolved = is_some i.body;
  parent = parent_in i.body;
  slots = map slot_of (methods_in i.body);
}

-- the methods of an interface whose chain of parents has at most n interfaces, itself counted:
-- those of its parent, then its own
unfoldable pub methods_within : List Iface → ℕ → ℕ → List Method
methods_within ifaces zero number = []
methods_within ifaces (suc n) number =
    methods_within ifaces n (parent_of ifaces number) ++ methods_in (body_of ifaces number)

-- the methods of an interface in the order of their slots; a chain of parents has at most 250
-- interfaces
abbrev pub methods_of : Library → ℕ → List Method
methods_of lib number = methods_within lib.ifaces 250 number

-- the table of a library: its interfaces in order, each with its own slots
unfoldable pub table_of : Library → Table
table_of lib = record { ifaces = map table_iface lib.ifaces }
