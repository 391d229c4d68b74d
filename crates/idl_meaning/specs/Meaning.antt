-- What a name is bound to, and what a type means at a place: among the names declared before it,
-- behind all typedefs.
use Rattle.std.specs.Prelude.{ℕ, Bool, true, false, not, ◌&&◌, ◌||◌, ◌==◌, List, [], ◌∷◌, Option, Some, None, codes, nat_le, unwrap_or, if◌then◌else◌}
use Rattle.std.specs.Str.{bytes_eq}
use Rattle.idl_grammar.specs.declared.tree.Attr.{Attr}
use Rattle.idl_grammar.specs.declared.tree.TypeName.{TypeName}
use Rattle.idl_grammar.specs.declared.tree.TypeName.TheVariants as type
use Rattle.idl_meaning.specs.declared.scope.Meant.{Meant}
use Rattle.idl_meaning.specs.declared.scope.Meant.TheVariants as meant
use Rattle.idl_meaning.specs.Attributes.{has, is_plain}

-- What the name of a type is bound to: a typedef or native, by what it means; an interface that
-- is only named so far, by its number; and one that is defined, with the number of interfaces
-- that were defined before it.
pub data Bound : Type 0 where
  Typed : Meant → Bound
  Forward : ℕ → Bound
  Defined : ℕ → ℕ → Bound

-- the names that are declared before a place
abbrev pub Names : Type 0
Names = List ℕ → Option Bound

-- a table in which no name is known
abbrev pub nothing : {A : Type 0} → List ℕ → Option A
nothing name = None

-- a table of names, and one name more: the name means this now
abbrev pub learns : {A : Type 0} → (List ℕ → Option A) → List ℕ → Option A → List ℕ → Option A
learns old name now n = if bytes_eq name n then now else old n

-- What a type is at a place: a name that is not declared, `void`, or a type with a meaning.
pub data Sense : Type 0 where
  Unknown : Sense
  Nothing : Sense
  Means : Meant → Sense

-- what a declared name means as a type
abbrev pub meaning_of : Bound → Meant
meaning_of (Typed m) = m
meaning_of (Forward number) = meant.Iface number
meaning_of (Defined number rank) = meant.Iface number

abbrev pub bound_sense : Option Bound → Sense
bound_sense None = Unknown
bound_sense (Some b) = Means (meaning_of b)

-- what a type means; the tags are those of a typelib
abbrev pub sense : Names → TypeName → Sense
sense names type.Void = Nothing
sense names type.Boolean = Means (meant.Basic 10)
sense names type.Octet = Means (meant.Basic 4)
sense names type.Short = Means (meant.Basic 1)
sense names type.Long = Means (meant.Basic 2)
sense names type.LongLong = Means (meant.Basic 3)
sense names type.UShort = Means (meant.Basic 5)
sense names type.ULong = Means (meant.Basic 6)
sense names type.ULongLong = Means (meant.Basic 7)
sense names type.Float = Means (meant.Basic 8)
sense names type.Double = Means (meant.Basic 9)
sense names type.Char = Means (meant.Basic 11)
sense names type.WChar = Means (meant.Basic 12)
sense names type.CString = Means (meant.Basic 16)
sense names type.WString = Means (meant.Basic 17)
sense names (type.Named name) = bound_sense (names name)

-- What a native with `nsid` means: a reference, else a pointer, else a plain native.
abbrev pub nsid_meaning : List ℕ → List Attr → Meant
nsid_meaning name attrs =
    if has (codes "ref") attrs then meant.NsidRef
    else if has (codes "ptr") attrs then meant.NsidPtr
    else meant.Native name

-- what an attribute says that a native is; `nsid` is what `nsid` says
abbrev pub said_by : Meant → Attr → Option Meant
said_by nsid a =
    if is_plain (codes "nsid") a then Some nsid
    else if is_plain (codes "domstring") a then Some (meant.StringClass 15)
    else if is_plain (codes "utf8string") a then Some (meant.StringClass 23)
    else if is_plain (codes "cstring") a then Some (meant.StringClass 24)
    else if is_plain (codes "astring") a then Some (meant.StringClass 25)
    else if is_plain (codes "jsval") a then Some meant.JsVal
    else None

-- what a native means, by the first of its attributes that says what it is, and else as a plain
-- native
abbrev pub native_by : Meant → Meant → List Attr → Meant
native_by plain nsid [] = plain
native_by plain nsid (a ∷ more) = unwrap_or (said_by nsid a) (native_by plain nsid more)

abbrev pub native_meaning : List ℕ → List Attr → Meant
native_meaning name attrs = native_by (meant.Native name) (nsid_meaning name attrs) attrs

-- ---- questions about types

abbrev pub is_unknown : Sense → Bool
is_unknown Unknown = true
is_unknown Nothing = false
is_unknown (Means m) = false

abbrev pub is_void : Sense → Bool
is_void Unknown = false
is_void Nothing = true
is_void (Means m) = false

-- the type has a meaning that passes the test
abbrev pub is_a : (Meant → Bool) → Sense → Bool
is_a test Unknown = false
is_a test Nothing = false
is_a test (Means m) = test m

-- the type is known, and is none that passes the test
abbrev pub is_no : (Meant → Bool) → Sense → Bool
is_no test Unknown = false
is_no test Nothing = true
is_no test (Means m) = not (test m)

-- tags 1 to 7
abbrev pub is_integer : Meant → Bool
is_integer (meant.Basic tag) = nat_le 1 tag && nat_le tag 7
is_integer _ = false

-- `string` or `wstring`
abbrev pub is_string : Meant → Bool
is_string (meant.Basic tag) = tag == 16 || tag == 17
is_string _ = false

abbrev pub is_iid_ref : Meant → Bool
is_iid_ref meant.NsidRef = true
is_iid_ref _ = false

-- a reference or a pointer to an identifier
abbrev pub is_iid : Meant → Bool
is_iid meant.NsidRef = true
is_iid meant.NsidPtr = true
is_iid _ = false

abbrev pub is_class : Meant → Bool
is_class (meant.StringClass tag) = true
is_class _ = false

abbrev pub is_native : Meant → Bool
is_native (meant.Native name) = true
is_native _ = false

-- a plain native or an interface
abbrev pub is_object : Meant → Bool
is_object (meant.Native name) = true
is_object (meant.Iface number) = true
is_object _ = false
