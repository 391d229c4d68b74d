-- The C++ types of a header's arguments. A type follows from how its argument is passed.
use Rattle.std.specs.Prelude.{ℕ, ◌==◌, ◌||◌, false, List, [], ◌++◌, slice_get, codes, Option, Some, None, if◌then◌else◌}
use Rattle.std.specs.Option.{option_map_or}
use Rattle.xp_base.specs.declared.kinds.Dir.{Dir}
use Rattle.call_model.specs.declared.prototypes.Pass.{Pass}
use Rattle.call_model.specs.declared.prototypes.Pass.TheVariants.{ByValue, ByRef, ByCell}
use Rattle.line_words.specs.Words.{Word}
use Rattle.idl_meaning.specs.declared.scope.Meant.{Meant}
use Rattle.idl_meaning.specs.declared.scope.Meant.TheVariants as meant
use Rattle.idl_meaning.specs.declared.scope.ScopeIface.{ScopeIface}
use Rattle.idl_meaning.specs.declared.scope.ScopeParam.{ScopeParam}
use Rattle.idl_meaning.specs.Faults.{is_in}
use Rattle.lib_model.specs.declared.tags.TheConstants as tags
use Rattle.lib_model.specs.Table.{type_of_tag}
use Rattle.prototype_lowering.specs.StaticTable.{pass_of}
use Rattle.header_model.specs.Words.{type_word}
use Rattle.header_text.specs.declared.types.Typed.{Typed}

-- the name of the interface of a number
abbrev pub name_at : List ScopeIface → ℕ → Word
name_at ifaces k = option_map_or (λ (i : ScopeIface). i.name) (slice_get ifaces k) []

abbrev pub pointer_to : Word → Word
pointer_to base = base ++ codes "*"

-- ---- the base of a type

-- a basic type, by its tag: strings by the address of their characters
abbrev pub basic_base : ℕ → Word
basic_base tag =
    if tag == tags.STRING then codes "char*"
    else if tag == tags.WSTRING then codes "char16_t*"
    else type_word (type_of_tag tag)

-- an interface: of one that a parameter identifies nothing is known
abbrev pub iface_base : List ScopeIface → ℕ → (iid : Option ℕ) → Word
iface_base ifaces k None = pointer_to (name_at ifaces k)
iface_base ifaces k (Some iid) = codes "void*"

abbrev pub base_alone : List ScopeIface → Meant → (iid : Option ℕ) → Word
base_alone ifaces (meant.Basic tag) iid = basic_base tag
base_alone ifaces (meant.Iface k) iid = iface_base ifaces k iid
base_alone ifaces meant.NsidRef iid = codes "nsID*"
base_alone ifaces meant.NsidPtr iid = codes "nsID*"
base_alone ifaces (meant.StringClass tag) iid = codes "void*"
base_alone ifaces meant.JsVal iid = codes "void*"
base_alone ifaces (meant.Native name) iid = codes "void*"

-- an array is the address of its first element
abbrev pub base_of : List ScopeIface → ScopeParam → Word
base_of ifaces p =
    if p.array then pointer_to (base_alone ifaces p.ty p.iid) else base_alone ifaces p.ty p.iid

-- ---- what is passed by reference

-- the classes of strings, of characters of 16 bits and of 8
abbrev pub class_reference : ℕ → Word
class_reference tag =
    if tag == tags.DOMSTRING || tag == tags.ASTRING then codes "nsAString&"
    else codes "nsACString&"

-- a string that goes in is not changed
abbrev pub class_type : ℕ → Dir → Word
class_type tag dir =
    if is_in dir then codes "const " ++ class_reference tag else class_reference tag

abbrev pub referred_type : Meant → Dir → Word
referred_type (meant.Basic tag) dir = codes "void*"
referred_type (meant.Iface k) dir = codes "void*"
referred_type meant.NsidRef dir = codes "const nsID&"
referred_type meant.NsidPtr dir = codes "const nsID*"
referred_type (meant.StringClass tag) dir = class_type tag dir
referred_type meant.JsVal dir = codes "void*"
referred_type (meant.Native name) dir = codes "void*"

-- ---- types

-- the type of a parameter that is passed so
abbrev pub type_by : List ScopeIface → ScopeParam → Pass → Word
type_by ifaces p ByValue = base_of ifaces p
type_by ifaces p ByRef = referred_type p.ty p.dir
type_by ifaces p (ByCell inward) = pointer_to (base_of ifaces p)

abbrev pub type_text : List ScopeIface → ScopeParam → Word
type_text ifaces p = type_by ifaces p (pass_of p)

-- a parameter of which only what its type depends on is told
abbrev pub param_like : Typed → ScopeParam
param_like t = record {
  name = [];
  dir = t.dir;
  ty = t.ty.now;
  array = t.array;
  size = None;
  length = None;
  iid = t.iid;
  retval = false;
  shared = false;
  optional = false;
}
