-- What makes a library valid: the rules of the XPCOM typelib format that speak of no place in a
-- file.
use Rattle.std.specs.Prelude.{◌≡◌, ◌⊎◌, ℕ, zero, suc, ◌+◌, ◌<◌, ◌≤◌, ℤ, List, [], ◌∷◌, length, slice_get, Option, Some, None, IfSome, IsSome, IsSomeAnd, option_and_then, sum_by, All}
use Rattle.std.specs.Prelude.{FitsSigned}
use Rattle.std.specs.Int.{w16, w32, FitsUnsigned}
use Rattle.std.specs.Int.RustNames.{bit_and}
use Rattle.xp_base.specs.declared.kinds.ConstKind.{ConstKind}
use Rattle.xp_base.specs.declared.kinds.ConstKind.TheVariants as kinds
use Rattle.lib_model.specs.declared.contents.Library.{Library}
use Rattle.lib_model.specs.declared.contents.Iface.{Iface}
use Rattle.lib_model.specs.declared.contents.Body.{Body}
use Rattle.lib_model.specs.declared.contents.Method.{Method}
use Rattle.lib_model.specs.declared.contents.Constant.{Constant}
use Rattle.lib_model.specs.declared.param_types.Param.{Param}
use Rattle.lib_model.specs.declared.param_types.XType.{XType}
use Rattle.lib_model.specs.declared.param_types.XType.TheVariants as types
use Rattle.lib_model.specs.declared.param_types.Elem.{Elem}
use Rattle.lib_model.specs.declared.param_types.Elem.TheVariants as elems
use Rattle.lib_model.specs.declared.flags.TheConstants.IfaceFlags as iface_flags
use Rattle.lib_model.specs.declared.flags.TheConstants.MethodFlags as method_flags
use Rattle.lib_model.specs.declared.flags.TheConstants.ParamFlags as param_flags
use Rattle.lib_model.specs.declared.tags.TheConstants as tags

-- ---- names and flags

-- the bytes of a text that a byte 0 may end
abbrev pub HasNoZero : List ℕ → Type 0
HasNoZero text = All (λ b. 0 < b) text

-- 1 to 255 bytes other than 0
pub record IsName (name : List ℕ) : Type 0 where
  pub present : 0 < length name
  pub short : length name ≤ 255
  pub no_zero : HasNoZero name

-- the same, but a namespace may be empty
pub record IsNamespace (name : List ℕ) : Type 0 where
  pub short : length name ≤ 255
  pub no_zero : HasNoZero name

-- bits of a byte that are all among the known ones
pub record AreKnownBits (known bits : ℕ) : Type 0 where
  pub byte : bits < 256
  pub known_alone : bit_and bits known ≡ bits

-- scriptable, function, builtinclass
abbrev pub iface_bits : ℕ
iface_bits = iface_flags.KNOWN

-- getter, setter, notxpcom, constructor, hidden, optional_argc, implicit_jscontext
abbrev pub method_bits : ℕ
method_bits = method_flags.KNOWN

-- in, out, retval, shared, dipper, optional
abbrev pub param_bits : ℕ
param_bits = param_flags.KNOWN

-- ---- types

-- the tag of a type, and of an element's type
abbrev pub tag_of : XType → ℕ
tag_of (types.Plain tag) = tag
tag_of (types.Iface number) = tags.INTERFACE
tag_of (types.IidIs param) = tags.INTERFACE_IS
tag_of (types.Array size len elem) = tags.ARRAY
tag_of (types.SizedString size len) = tags.SIZED_STRING
tag_of (types.SizedWString size len) = tags.SIZED_WSTRING

abbrev pub tag_of_elem : Elem → ℕ
tag_of_elem (elems.Plain tag) = tag
tag_of_elem (elems.Iface number) = tags.INTERFACE
tag_of_elem (elems.IidIs param) = tags.INTERFACE_IS

-- a tag that stands alone: 0 to 17 or 23 to 26
abbrev pub IsPlainTag : ℕ → Type 0
IsPlainTag tag = (tag ≤ tags.WSTRING) ⊎ ((tags.UTF8STRING ≤ tag) × (tag ≤ tags.JSVAL))

-- the number of one of so many interfaces, counted from 1
abbrev pub IsIfaceNumber : ℕ → ℕ → Type 0
IsIfaceNumber count number = (0 < number) × (number ≤ count)

-- the number of a parameter whose type is an integer (tags 0 to 7), which can tell a size or a
-- length
abbrev pub IsCountParam : List Param → ℕ → Type 0
IsCountParam params number = IsSomeAnd (slice_get params number) (λ p. tag_of p.ty ≤ tags.UINT64)

-- the number of a parameter whose type is nsIID
abbrev pub IsIidParam : List Param → ℕ → Type 0
IsIidParam params number = IsSomeAnd (slice_get params number) (λ p. tag_of p.ty ≡ tags.NSID)

-- an element's type, in a method with these parameters, among so many interfaces
abbrev pub IsElem : ℕ → List Param → Elem → Type 0
IsElem count params (elems.Plain tag) = IsPlainTag tag
IsElem count params (elems.Iface number) = IsIfaceNumber count number
IsElem count params (elems.IidIs param) = IsIidParam params param

abbrev pub IsType : ℕ → List Param → XType → Type 0
IsType count params (types.Plain tag) = IsPlainTag tag
IsType count params (types.Iface number) = IsIfaceNumber count number
IsType count params (types.IidIs param) = IsIidParam params param
IsType count params (types.Array size len elem) =
    IsCountParam params size × IsCountParam params len × IsElem count params elem
IsType count params (types.SizedString size len) =
    IsCountParam params size × IsCountParam params len
IsType count params (types.SizedWString size len) =
    IsCountParam params size × IsCountParam params len

-- ---- members

pub record IsParam (count : ℕ) (params : List Param) (p : Param) : Type 0 where
  pub flags : AreKnownBits param_bits p.flags.bits
  pub ty : IsType count params p.ty

pub record IsMethod (count : ℕ) (m : Method) : Type 0 where
  pub name : IsName m.name
  pub flags : AreKnownBits method_bits m.flags.bits
  pub few : length m.params ≤ 255
  pub params : All (IsParam count m.params) m.params

-- a value in the range of its type
abbrev pub IsInRange : ConstKind → ℤ → Type 0
IsInRange kinds.I16 value = FitsSigned w16 value
IsInRange kinds.I32 value = FitsSigned w32 value
IsInRange kinds.U16 value = FitsUnsigned w16 value
IsInRange kinds.U32 value = FitsUnsigned w32 value

pub record IsConstant (c : Constant) : Type 0 where
  pub name : IsName c.name
  pub value : IsInRange c.kind c.value

-- ---- interfaces

-- the body of the interface of this number, where there is one and it is resolved
abbrev pub body_of : List Iface → ℕ → Option Body
body_of ifaces zero = None
body_of ifaces (suc k) = option_and_then (λ i. i.body) (slice_get ifaces k)

-- 0, or the number of a resolved interface
abbrev pub IsParent : List Iface → ℕ → Type 0
IsParent ifaces number = (number ≡ 0) ⊎ IsSome (body_of ifaces number)

pub record IsBody (ifaces : List Iface) (b : Body) : Type 0 where
  pub parent : IsParent ifaces b.parent
  pub methods : All (IsMethod (length ifaces)) b.methods
  pub few_constants : length b.constants ≤ 65535
  pub constants : All IsConstant b.constants
  pub flags : AreKnownBits iface_bits b.flags.bits

pub record IsIface (ifaces : List Iface) (i : Iface) : Type 0 where
  pub name : IsName i.name
  pub namespace : IfSome i.namespace IsNamespace
  pub iid : length i.iid ≡ 16
  pub body : IfSome i.body (IsBody ifaces)

-- ---- chains of parents

-- the parent and the number of own methods of an interface that has this body
abbrev pub parent_in : Option Body → ℕ
parent_in None = 0
parent_in (Some b) = b.parent

abbrev pub slots_in : Option Body → ℕ
slots_in None = 0
slots_in (Some b) = length b.methods

abbrev pub parent_of : List Iface → ℕ → ℕ
parent_of ifaces number = parent_in (body_of ifaces number)

abbrev pub own_slots : List Iface → ℕ → ℕ
own_slots ifaces number = slots_in (body_of ifaces number)

-- the numbers of an interface, of its parent, of that one's parent and so on: the first n of them,
-- or all where they end before
unfoldable pub first_of_chain : List Iface → ℕ → ℕ → List ℕ
first_of_chain ifaces zero number = []
first_of_chain ifaces (suc n) zero = []
first_of_chain ifaces (suc n) (suc k) = suc k ∷ first_of_chain ifaces n (parent_of ifaces (suc k))

-- an interface's chain of parents, itself counted; where it has more than 250 interfaces or is
-- cyclic, its first 251
abbrev pub chain_of : List Iface → ℕ → List ℕ
chain_of ifaces number = first_of_chain ifaces 251 number

-- a chain has at most 250 interfaces, and they have at most 250 methods
pub record IsChain (ifaces : List Iface) (number : ℕ) : Type 0 where
  pub short : length (chain_of ifaces number) ≤ 250
  pub few_slots : sum_by (own_slots ifaces) (chain_of ifaces number) ≤ 250

-- ---- libraries

-- interfaces, methods, parameters and constants, each counted once
abbrev pub body_items : Body → ℕ
body_items b = sum_by (λ m. 1 + length m.params) b.methods + length b.constants

abbrev pub items_in : Option Body → ℕ
items_in None = 0
items_in (Some b) = body_items b

abbrev pub iface_items : Iface → ℕ
iface_items i = 1 + items_in i.body

abbrev pub item_count : Library → ℕ
item_count lib = sum_by iface_items lib.ifaces

pub record IsValid (lib : Library) : Type 0 where
  pub few : length lib.ifaces ≤ 65535
  pub ifaces : All (IsIface lib.ifaces) lib.ifaces
  pub chains : (number : ℕ) → 0 < number → number ≤ length lib.ifaces → IsChain lib.ifaces number
  pub few_items : item_count lib ≤ 1000000
