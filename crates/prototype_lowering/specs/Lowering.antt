-- The library of a scope: what the XPCOM typelib format says of its interfaces.
use Rattle.std.specs.Prelude.{ℕ, ◌+◌, ◌==◌, Bool, true, false, not, List, [], ◌∷◌, map, Option, Some, None, if◌then◌else◌}
use Rattle.std.specs.List.{flat_map}
use Rattle.std.specs.Option.{unwrap_or}
use Rattle.xp_base.specs.declared.kinds.Dir.{Dir}
use Rattle.xp_base.specs.declared.kinds.Dir.TheVariants.{Inward, Outward, Both}
use Rattle.call_model.specs.declared.prototypes.MemberKind.{MemberKind}
use Rattle.call_model.specs.declared.prototypes.MemberKind.TheVariants as kind
use Rattle.idl_meaning.specs.declared.scope.Meant.{Meant}
use Rattle.idl_meaning.specs.declared.scope.Meant.TheVariants as meant
use Rattle.idl_meaning.specs.declared.scope.Scope.{Scope}
use Rattle.idl_meaning.specs.declared.scope.ScopeBody.{ScopeBody}
use Rattle.idl_meaning.specs.declared.scope.ScopeBody.TheVariants as body
use Rattle.idl_meaning.specs.declared.scope.ScopeIface.{ScopeIface}
use Rattle.idl_meaning.specs.declared.scope.ScopeMember.{ScopeMember}
use Rattle.idl_meaning.specs.declared.scope.ScopeParam.{ScopeParam}
use Rattle.idl_meaning.specs.Attributes.{bit}
use Rattle.idl_meaning.specs.Meaning.{is_class}
use Rattle.lib_model.specs.declared.contents.Body.{Body}
use Rattle.lib_model.specs.declared.contents.Constant.{Constant}
use Rattle.lib_model.specs.declared.contents.Iface.{Iface}
use Rattle.lib_model.specs.declared.contents.Library.{Library}
use Rattle.lib_model.specs.declared.contents.Method.{Method}
use Rattle.lib_model.specs.declared.flags.TheConstants.MethodFlags.{GETTER, SETTER, NOTXPCOM, HIDDEN, OPTIONAL_ARGC, IMPLICIT_JSCONTEXT}
use Rattle.lib_model.specs.declared.flags.TheConstants.ParamFlags.{IN, OUT, RETVAL, SHARED, DIPPER, OPTIONAL}
use Rattle.lib_model.specs.declared.param_types.Elem.{Elem}
use Rattle.lib_model.specs.declared.param_types.Elem.TheVariants as elems
use Rattle.lib_model.specs.declared.param_types.Param.{Param}
use Rattle.lib_model.specs.declared.param_types.XType.{XType}
use Rattle.lib_model.specs.declared.param_types.XType.TheVariants as types
use Rattle.lib_model.specs.declared.tags.TheConstants as tags
use Rattle.vtable_layout.specs.Slots.{Slot, own_slots}
use Rattle.prototype_lowering.specs.Directory.{directory_of, iid_of, in_order, number, parent_number}

-- ---- flags

abbrev pub param_flags : Bool → Bool → Bool → Bool → Bool → Bool → ℕ
param_flags inward outward retval shared dipper optional =
    bit IN.bits inward + bit OUT.bits outward + bit RETVAL.bits retval + bit SHARED.bits shared
    + bit DIPPER.bits dipper + bit OPTIONAL.bits optional

abbrev pub method_flags : Bool → Bool → Bool → Bool → Bool → Bool → ℕ
method_flags getter setter notxpcom hidden argc context =
    bit GETTER.bits getter + bit SETTER.bits setter + bit NOTXPCOM.bits notxpcom
    + bit HIDDEN.bits hidden + bit OPTIONAL_ARGC.bits argc + bit IMPLICIT_JSCONTEXT.bits context

-- A string class is never passed out by a cell: the caller makes the string, whose address is
-- passed in, and the callee writes into it. It is then a dipper.
abbrev pub goes_in : Dir → Bool → Bool
goes_in Inward class = true
goes_in Outward class = class
goes_in Both class = true

abbrev pub goes_out : Dir → Bool → Bool
goes_out Inward class = false
goes_out Outward class = not class
goes_out Both class = true

abbrev pub is_dipper : Dir → Bool → Bool
is_dipper Inward class = false
is_dipper Outward class = class
is_dipper Both class = false

-- by the direction, whether it is a string class, and the marks retval, shared and optional
abbrev pub flags_by : Dir → Bool → Bool → Bool → Bool → ℕ
flags_by dir class retval shared optional =
    param_flags (goes_in dir class) (goes_out dir class) retval shared (is_dipper dir class)
    optional

abbrev pub flags_of : ScopeParam → ℕ
flags_of p = flags_by p.dir (is_class p.ty) p.retval p.shared p.optional

-- ---- types

-- the numbers of the parameters that tell the size, and how much of it is in use: the size where
-- nothing else tells that
abbrev pub size_of : ScopeParam → ℕ
size_of p = unwrap_or p.size 0

abbrev pub length_of : ScopeParam → ℕ
length_of p = unwrap_or p.length (size_of p)

-- an interface: the one of this number in the scope, or one whose identifier another parameter
-- gives
abbrev pub iface_elem : List ℕ → ℕ → Option ℕ → Elem
iface_elem d k None = elems.Iface (number d k)
iface_elem d k (Some iid) = elems.IidIs iid

-- a native type, of which nothing is known, or an interface
abbrev pub native_elem : Option ℕ → Elem
native_elem None = elems.Plain tags.VOID
native_elem (Some iid) = elems.IidIs iid

-- the type of an array's element
abbrev pub elem_of : List ℕ → Meant → Option ℕ → Elem
elem_of d (meant.Basic tag) iid = elems.Plain tag
elem_of d (meant.Iface k) iid = iface_elem d k iid
elem_of d meant.NsidRef iid = elems.Plain tags.NSID
elem_of d meant.NsidPtr iid = elems.Plain tags.NSID
elem_of d (meant.StringClass tag) iid = elems.Plain tag
elem_of d meant.JsVal iid = elems.Plain tags.JSVAL
elem_of d (meant.Native name) iid = native_elem iid

-- the type of a parameter that is no array has the form of an element's, but for strings whose size
-- is told
abbrev pub alone : Elem → XType
alone (elems.Plain tag) = types.Plain tag
alone (elems.Iface k) = types.Iface k
alone (elems.IidIs param) = types.IidIs param

abbrev pub sized_type : ℕ → Option ℕ → ℕ → XType
sized_type tag None len = types.Plain tag
sized_type tag (Some size) len =
    if tag == tags.STRING then types.SizedString size len
    else if tag == tags.WSTRING then types.SizedWString size len
    else types.Plain tag

abbrev pub type_alone : List ℕ → ScopeParam → Meant → XType
type_alone d p (meant.Basic tag) = sized_type tag p.size (length_of p)
type_alone d p (meant.Iface k) = alone (iface_elem d k p.iid)
type_alone d p meant.NsidRef = types.Plain tags.NSID
type_alone d p meant.NsidPtr = types.Plain tags.NSID
type_alone d p (meant.StringClass tag) = types.Plain tag
type_alone d p meant.JsVal = types.Plain tags.JSVAL
type_alone d p (meant.Native name) = alone (native_elem p.iid)

abbrev pub type_of : List ℕ → ScopeParam → XType
type_of d p =
    if p.array then types.Array (size_of p) (length_of p) (elem_of d p.ty p.iid)
    else type_alone d p p.ty

-- ---- members

abbrev pub param_of : List ℕ → ScopeParam → Param
param_of d p = record { flags = record { bits = flags_of p }; ty = type_of d p }

abbrev pub is_getter : MemberKind → Bool
is_getter kind.Plain = false
is_getter kind.Get = true
is_getter kind.Set = false

abbrev pub is_setter : MemberKind → Bool
is_setter kind.Plain = false
is_setter kind.Get = false
is_setter kind.Set = true

-- the flags of a slot of this kind
abbrev pub slot_flags : MemberKind → Bool → Bool → Bool → Bool → ℕ
slot_flags kind notxpcom hidden argc context =
    method_flags (is_getter kind) (is_setter kind) notxpcom hidden argc context

abbrev pub method_of : List ℕ → Slot → Method
method_of d s = record {
  name = s.name;
  flags = record { bits = slot_flags s.kind s.notxpcom s.hidden s.argc s.context };
  params = map (param_of d) s.params;
}

abbrev pub constants_in : List ℕ → ScopeBody → List Constant
constants_in name (body.Constant of value) = record { name = name; kind = of; value = value } ∷ []
constants_in name (body.Attribute hidden notxpcom context readonly ty) = []
constants_in name (body.Method hidden notxpcom argc context returns params) = []

abbrev pub constants_of_member : ScopeMember → List Constant
constants_of_member m = constants_in m.name m.body

-- ---- interfaces

abbrev pub body_of : List ℕ → ScopeIface → Body
body_of d i = record {
  parent = parent_number d i.parent;
  methods = map (method_of d) (own_slots i);
  constants = flat_map constants_of_member i.members;
  flags = record { bits = i.flags };
}

-- an interface that is declared alone is not resolved, and its identifier is zero
abbrev pub iface_of : List ℕ → ScopeIface → Iface
iface_of d i = record {
  name = i.name;
  namespace = None;
  iid = iid_of i;
  body = if i.defined then Some (body_of d i) else None;
}

unfoldable pub library_of : Scope → Library
library_of s = record { ifaces = map (iface_of (directory_of s.ifaces)) (in_order s.ifaces) }
