-- What holds of the scope of files without faults.
use Rattle.std.specs.Prelude.{◌≡◌, ℕ, suc, ◌<◌, ◌^◌, Bool, ◌&&◌, ◌||◌, ◌==◌, ◌⊎◌, List, [], length, Option, Some, None, is_some, nat_le, slice_get, IsSomeAnd, IsTrue, IsFalse}
use Rattle.xp_base.specs.declared.kinds.Dir.TheVariants.{Inward, Outward}
use Rattle.idl_grammar.specs.Trees.{IsName}
use Rattle.idl_meaning.specs.declared.scope.Meant.{Meant}
use Rattle.idl_meaning.specs.declared.scope.Meant.TheVariants as meant
use Rattle.idl_meaning.specs.declared.scope.ScopeBody.{ScopeBody}
use Rattle.idl_meaning.specs.declared.scope.ScopeBody.TheVariants as body
use Rattle.idl_meaning.specs.declared.scope.ScopeIface.{ScopeIface}
use Rattle.idl_meaning.specs.declared.scope.ScopeMember.{ScopeMember}
use Rattle.idl_meaning.specs.declared.scope.ScopeParam.{ScopeParam}
use Rattle.idl_meaning.specs.declared.scope.Scope.{Scope}
use Rattle.idl_meaning.specs.Attributes.{iface_flags}
use Rattle.idl_meaning.specs.Meaning.{is_integer, is_string, is_iid_ref, is_iid, is_class, is_native, is_object}
use Rattle.idl_meaning.specs.Constants.{in_range}
use Rattle.idl_meaning.specs.Faults.{is_both}
use Rattle.idl_meaning.specs.Scopes.{zero_iid}

-- the tags of numbers, booleans, characters and texts, 1 to 12, 16 and 17
abbrev pub is_basic_tag : ℕ → Bool
is_basic_tag tag = nat_le 1 tag && nat_le tag 12 || tag == 16 || tag == 17

-- the tags of the classes of strings
abbrev pub is_class_tag : ℕ → Bool
is_class_tag tag = tag == 15 || tag == 23 || tag == 24 || tag == 25

-- the tags are those of a typelib, and an interface is one of so many
abbrev pub IsMeant : ℕ → Meant → Type 0
IsMeant count (meant.Basic tag) = IsTrue (is_basic_tag tag)
IsMeant count (meant.Iface number) = number < count
IsMeant count (meant.StringClass tag) = IsTrue (is_class_tag tag)
IsMeant count _ = Unit {0}

-- a type that can be given back: any but a reference to an identifier
pub record IsGiven (count : ℕ) (m : Meant) : Type 0 where
  pub typed : IsMeant count m
  pub no_reference : IsFalse (is_iid_ref m)

-- a type that is given back, where there is one
abbrev pub IsResult : ℕ → Option Meant → Type 0
IsResult count None = Unit {0}
IsResult count (Some m) = IsGiven count m

-- no two elements of a list have one name
abbrev pub HaveNamesOnce : {A : Type 0} → (A → List ℕ) → List A → Type 0
HaveNamesOnce {A} name_of xs =
    (j k : ℕ) (a b : A) → slice_get xs j ≡ Some a → slice_get xs k ≡ Some b
    → name_of a ≡ name_of b → j ≡ k

-- a parameter that is no array, and has a type that passes the test
pub record IsSingle (test : Meant → Bool) (p : ScopeParam) : Type 0 where
  pub passes : IsTrue (test p.ty)
  pub no_array : IsFalse p.array

-- where there is a number, it is that of such a parameter
abbrev pub Points : (Meant → Bool) → List ScopeParam → Option ℕ → Type 0
Points test params None = Unit {0}
Points test params (Some k) = IsSomeAnd (slice_get params k) (IsSingle test)

-- A parameter: its type; a reference to an identifier goes in, and a class of strings not both
-- ways; sizes, lengths and identifiers that are given by parameters of the kinds that can give
-- them; a size only on an array or a string, a length only beside a size, and an identifier only
-- on an interface or a plain native; and an array has a size, and is of no class of strings and no
-- references to identifiers.
pub record IsAcceptedParam (count : ℕ) (params : List ScopeParam) (p : ScopeParam) : Type 0 where
  pub typed : IsMeant count p.ty
  pub reference_in : IsTrue (is_iid_ref p.ty) → p.dir ≡ Inward
  pub class_one_way : IsTrue (is_class p.ty) → IsFalse (is_both p.dir)
  pub sized : Points is_integer params p.size
  pub size_fits : IsTrue (is_some p.size) → IsTrue (p.array || is_string p.ty)
  pub measured : Points is_integer params p.length
  pub beside_size : IsTrue (is_some p.length) → IsTrue (is_some p.size)
  pub identified : Points is_iid params p.iid
  pub iid_fits : IsTrue (is_some p.iid) → IsTrue (is_object p.ty)
  pub array_sized : IsTrue p.array → IsTrue (is_some p.size)
  pub array_plain : IsTrue p.array → IsFalse (is_class p.ty)
  pub array_no_reference : IsTrue p.array → IsFalse (is_iid_ref p.ty)

-- A method: its parameters, whose names differ; an `optional` one comes before none that is
-- neither that nor `retval`; and a `retval` is the last of them, is `out`, and stands where no
-- value is given back.
pub record IsAcceptedMethod (count : ℕ) (gives : Option Meant) (params : List ScopeParam)
    : Type 0 where
  pub returned : IsResult count gives
  pub each : (k : ℕ) (p : ScopeParam) → slice_get params k ≡ Some p → IsAcceptedParam count params p
  pub params_differ : HaveNamesOnce (λ (p : ScopeParam). p.name) params
  pub no_gap : (k : ℕ) (p q : ScopeParam) → slice_get params k ≡ Some p
      → slice_get params (suc k) ≡ Some q → IsTrue p.optional → IsTrue (q.optional || q.retval)
  pub last : (k : ℕ) (p : ScopeParam) → slice_get params k ≡ Some p → IsTrue p.retval
      → suc k ≡ length params
  pub outward : (k : ℕ) (p : ScopeParam) → slice_get params k ≡ Some p → IsTrue p.retval
      → p.dir ≡ Outward
  pub alone : (k : ℕ) (p : ScopeParam) → slice_get params k ≡ Some p → IsTrue p.retval
      → gives ≡ None

-- a member: a constant is in the range of its kind
abbrev pub IsAcceptedBody : ℕ → ScopeBody → Type 0
IsAcceptedBody count (body.Constant kind value) = IsTrue (in_range kind value)
IsAcceptedBody count (body.Attribute hidden notxpcom context readonly ty) = IsGiven count ty
IsAcceptedBody count (body.Method hidden notxpcom argc context gives params) =
    IsAcceptedMethod count gives params

abbrev pub AreAcceptedMembers : ℕ → List ScopeMember → Type 0
AreAcceptedMembers count members =
    (k : ℕ) (m : ScopeMember) → slice_get members k ≡ Some m → IsAcceptedBody count m.body

-- no plain native is given back, and none is a parameter without an identifier
pub record ShowsNoNative (gives : Option Meant) (params : List ScopeParam) : Type 0 where
  pub gives_none : (m : Meant) → gives ≡ Some m → IsFalse (is_native m)
  pub takes_none : (k : ℕ) (p : ScopeParam) → slice_get params k ≡ Some p → IsTrue (is_native p.ty)
      → IsTrue (is_some p.iid)

-- a member that is neither `noscript` nor `notxpcom` has no plain native
abbrev pub HidesNatives : ScopeBody → Type 0
HidesNatives (body.Constant kind value) = Unit {0}
HidesNatives (body.Attribute hidden notxpcom context readonly ty) =
    IsFalse hidden → IsFalse notxpcom → IsFalse (is_native ty)
HidesNatives (body.Method hidden notxpcom argc context gives params) =
    IsFalse hidden → IsFalse notxpcom → ShowsNoNative gives params

-- the bits that an interface has in a typelib, each set or not
pub record AreIfaceFlags (flags : ℕ) : Type 0 where
  pub scriptable : Bool
  pub function : Bool
  pub builtinclass : Bool
  pub made : flags ≡ iface_flags scriptable function builtinclass

-- An interface: its identifier has 16 bytes; its flags; its members, whose names differ, and which
-- hide plain natives where it is scriptable; its parent is defined; and one that is not defined has
-- an identifier of zeros, and neither parent nor members.
pub record IsAcceptedIface (ifaces : List ScopeIface) (i : ScopeIface) : Type 0 where
  pub identifier : length i.iid ≡ 16
  pub flags : AreIfaceFlags i.flags
  pub members : AreAcceptedMembers (length ifaces) i.members
  pub members_differ : HaveNamesOnce (λ (m : ScopeMember). m.name) i.members
  pub natives_hidden : IsTrue flags.scriptable → (k : ℕ) (m : ScopeMember)
      → slice_get i.members k ≡ Some m → HidesNatives m.body
  pub extends : (p : ℕ) → i.parent ≡ Some p → IsSomeAnd (slice_get ifaces p) (λ q. IsTrue q.defined)
  pub unidentified : IsFalse i.defined → i.iid ≡ zero_iid
  pub parentless : IsFalse i.defined → i.parent ≡ None
  pub memberless : IsFalse i.defined → i.members ≡ []

-- the names of a method's parameters are words of 1 to 255 bytes
abbrev pub HasNamedParams : ScopeBody → Type 0
HasNamedParams (body.Constant kind value) = Unit {0}
HasNamedParams (body.Attribute hidden notxpcom context readonly ty) = Unit {0}
HasNamedParams (body.Method hidden notxpcom argc context gives params) =
    (k : ℕ) (p : ScopeParam) → slice_get params k ≡ Some p → IsName p.name

-- What the language has of an interface: its name, those of its members and those of their
-- parameters are words of 1 to 255 bytes, and its members are fewer than 2^32.
pub record IsLawfulIface (i : ScopeIface) : Type 0 where
  pub named : IsName i.name
  pub members_named : (k : ℕ) (m : ScopeMember) → slice_get i.members k ≡ Some m → IsName m.name
  pub params_named : (k : ℕ) (m : ScopeMember) → slice_get i.members k ≡ Some m
      → HasNamedParams m.body
  pub few_members : length i.members < 2 ^ 32

-- no two interfaces have one name
abbrev pub AreNamedOnce : List ScopeIface → Type 0
AreNamedOnce ifaces = HaveNamesOnce (λ (i : ScopeIface). i.name) ifaces

-- no two interfaces that are defined have one identifier
abbrev pub AreIdentifiedOnce : List ScopeIface → Type 0
AreIdentifiedOnce ifaces =
    (j k : ℕ) (a b : ScopeIface) → slice_get ifaces j ≡ Some a → slice_get ifaces k ≡ Some b
    → IsTrue a.defined → IsTrue b.defined → a.iid ≡ b.iid → j ≡ k

-- no two interfaces that are defined have one file and declaration
abbrev pub AreApart : List ScopeIface → Type 0
AreApart ifaces =
    (j k : ℕ) (a b : ScopeIface) → slice_get ifaces j ≡ Some a → slice_get ifaces k ≡ Some b
    → IsTrue a.defined → IsTrue b.defined → a.file ≡ b.file → a.decl ≡ b.decl → j ≡ k

-- an interface stands in an earlier file than another, or earlier in the same file
abbrev pub IsEarlier : ScopeIface → ScopeIface → Type 0
IsEarlier a b = (a.file < b.file) ⊎ ((a.file ≡ b.file) × (a.decl < b.decl))

-- an interface is defined, earlier than another
pub record IsDefinedBefore (child : ScopeIface) (i : ScopeIface) : Type 0 where
  pub marked : IsTrue i.defined
  pub earlier : IsEarlier i child

-- each parent is defined, earlier than its child
abbrev pub AreParentsFirst : List ScopeIface → Type 0
AreParentsFirst ifaces =
    (k p : ℕ) (i : ScopeIface) → slice_get ifaces k ≡ Some i → i.parent ≡ Some p
    → IsSomeAnd (slice_get ifaces p) (IsDefinedBefore i)

-- An interface is above the one of number k: it is its parent, or above its parent.
pub data IsAbove (ifaces : List ScopeIface) (above : ℕ) : ℕ → Type 0 where
  parent : (k : ℕ) (i : ScopeIface) → slice_get ifaces k ≡ Some i → i.parent ≡ Some above
      → IsAbove ifaces above k
  ancestor : (k p : ℕ) (i : ScopeIface) → slice_get ifaces k ≡ Some i → i.parent ≡ Some p
      → IsAbove ifaces above p → IsAbove ifaces above k

-- The scope of lawful files without faults: fewer than 2^32 interfaces, and each of them; no two
-- have one name, or, defined, one identifier, or one file and declaration; each parent is defined
-- before its child, and none is above itself.
pub record IsAcceptedScope (s : Scope) : Type 0 where
  pub few : length s.ifaces < 2 ^ 32
  pub each : (k : ℕ) (i : ScopeIface) → slice_get s.ifaces k ≡ Some i → IsAcceptedIface s.ifaces i
  pub lawful : (k : ℕ) (i : ScopeIface) → slice_get s.ifaces k ≡ Some i → IsLawfulIface i
  pub named_once : AreNamedOnce s.ifaces
  pub identified_once : AreIdentifiedOnce s.ifaces
  pub apart : AreApart s.ifaces
  pub parents_first : AreParentsFirst s.ifaces
  pub no_circle : (k : ℕ) → IsAbove s.ifaces k k → ⊥
