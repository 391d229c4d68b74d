-- Tables of a few interfaces, by hand from their declarations.
use Rattle.std.specs.Prelude.{ℕ, true, false, List, [], ◌∷◌, ◌++◌, codes, replicate}
use Rattle.call_model.specs.declared.ctypes.CType.{CType}
use Rattle.call_model.specs.declared.ctypes.CType.TheVariants as c
use Rattle.call_model.specs.declared.prototypes.MemberKind.{MemberKind}
use Rattle.call_model.specs.declared.prototypes.MemberKind.TheVariants as kinds
use Rattle.call_model.specs.declared.prototypes.Note.{Note}
use Rattle.call_model.specs.declared.prototypes.Note.TheVariants as notes
use Rattle.call_model.specs.declared.prototypes.Pass.{Pass}
use Rattle.call_model.specs.declared.prototypes.Pass.TheVariants.{ByValue, ByRef, ByCell}
use Rattle.call_model.specs.declared.prototypes.ProtoArg.{ProtoArg}
use Rattle.call_model.specs.declared.prototypes.Status.{Status}
use Rattle.call_model.specs.declared.prototypes.Status.TheVariants as statuses
use Rattle.call_model.specs.declared.tables.Table.{Table}
use Rattle.call_model.specs.declared.tables.TableIface.{TableIface}
use Rattle.call_model.specs.declared.tables.TableSlot.{TableSlot}

-- ---- parts

abbrev arg : Pass → CType → Note → ProtoArg
arg pass ty note = record { pass = pass; ty = ty; optional = false; note = note }

abbrev value : CType → ProtoArg
value ty = arg ByValue ty notes.Plain

abbrev optional : CType → ProtoArg
optional ty = record { pass = ByValue; ty = ty; optional = true; note = notes.Plain }

abbrev address : ProtoArg
address = arg ByRef c.Ptr notes.Plain

abbrev out : CType → ProtoArg
out ty = arg (ByCell false) ty notes.Plain

abbrev argc : ProtoArg
argc = arg ByValue c.U8 notes.Argc

abbrev cx : ProtoArg
cx = arg ByValue c.Ptr notes.Context

abbrev member : MemberKind → List ℕ → List ProtoArg → TableSlot
member kind name proto =
    record { name = name; kind = kind; status = statuses.Callable; proto = proto }

abbrev method : List ℕ → List ProtoArg → TableSlot
method name proto = member kinds.Plain name proto

abbrev closed : Status → List ℕ → TableSlot
closed status name = record { name = name; kind = kinds.Plain; status = status; proto = [] }

abbrev iface : List ℕ → List ℕ → (parent : ℕ) → List TableSlot → TableIface
iface name iid parent slots =
    record { name = name; iid = iid; resolved = true; parent = parent; slots = slots }

-- ---- tables

-- void QueryInterface(in nsIIDRef uuid, [iid_is(uuid), retval] out nsQIResult result);
-- [noscript, notxpcom] nsrefcnt AddRef();
-- [noscript, notxpcom] nsrefcnt Release();
abbrev supports : TableIface
supports =
    iface
    (codes "nsISupports")
    (replicate 8 0 ++ 0xc0 ∷ replicate 6 0 ++ 0x46 ∷ [])
    0
    (method (codes "QueryInterface") (address ∷ arg (ByCell false) c.Ptr (notes.IidAt 0) ∷ [])
    ∷ closed statuses.Hidden (codes "AddRef")
    ∷ closed statuses.Hidden (codes "Release") ∷ [])

-- an interface with these members of its own, which descends from nsISupports
abbrev descendant : List ℕ → List TableSlot → Table
descendant name slots =
    record {
      ifaces =
          supports
          ∷ iface
          name
          (1 ∷ 2 ∷ 3 ∷ 4 ∷ 5 ∷ 6 ∷ 7 ∷ 8 ∷ 9 ∷ 10 ∷ 11 ∷ 12 ∷ 13 ∷ 14 ∷ 15 ∷ 16 ∷ [])
          1
          slots ∷ [];
    }

-- interface nsIT : nsISupports { long add(in long a, in long b); };
abbrev pub adding : Table
adding =
    descendant
    (codes "nsIT")
    (method (codes "add") (value c.I32 ∷ value c.I32 ∷ out c.I32 ∷ []) ∷ [])

-- void seven(in long a, in long b, in long c, in long d, in long e, in long f, in long g);
abbrev pub seven : Table
seven = descendant (codes "nsI7") (method (codes "seven") (replicate 7 (value c.I32)) ∷ [])

-- void mix(in double a, in double b, in long n, in double c, in double d, in double e, in double f,
--     in double g, in double h, in double i);
abbrev pub mixed : Table
mixed =
    descendant
    (codes "nsIM")
    (method
    (codes "mix")
    (value c.F64 ∷ value c.F64 ∷ value c.I32 ∷ replicate 7 (value c.F64)) ∷ [])

-- void pad(in long long x, in boolean b, in octet c);
abbrev pub padded : Table
padded =
    descendant
    (codes "nsIP")
    (method (codes "pad") (value c.I64 ∷ value c.Bool ∷ value c.U8 ∷ []) ∷ [])

-- [optional_argc] long pick(in long a, [optional] in long b, [optional] in long c);
abbrev pub optionals : Table
optionals =
    descendant
    (codes "nsIO")
    (method
    (codes "pick")
    (value c.I32 ∷ optional c.I32 ∷ optional c.I32 ∷ argc ∷ out c.I32 ∷ []) ∷ [])

-- [implicit_jscontext, optional_argc] long ctx(in long a, [optional] in long b);
-- [implicit_jscontext] attribute long x;
abbrev pub contexts : Table
contexts =
    descendant
    (codes "nsIC")
    (method (codes "ctx") (value c.I32 ∷ optional c.I32 ∷ cx ∷ argc ∷ out c.I32 ∷ [])
    ∷ member kinds.Get (codes "x") (cx ∷ out c.I32 ∷ [])
    ∷ member kinds.Set (codes "x") (cx ∷ value c.I32 ∷ []) ∷ [])

-- void list(out unsigned long n, [array, size_is(n)] out short v);
abbrev pub arrays : Table
arrays =
    descendant
    (codes "nsIL")
    (method
    (codes "list")
    (out c.U32 ∷ arg (ByCell false) c.Ptr (notes.Count 0 0 c.I16) ∷ []) ∷ [])

-- void part(in unsigned long n, out unsigned long m,
--     [array, size_is(n), length_is(m)] out short v);
abbrev pub parts : Table
parts =
    descendant
    (codes "nsIP")
    (method
    (codes "part")
    (value c.U32 ∷ out c.U32 ∷ arg (ByCell false) c.Ptr (notes.Count 0 1 c.I16) ∷ []) ∷ [])

-- void read(in unsigned long n, [size_is(n)] out string s);
abbrev pub strings : Table
strings =
    descendant
    (codes "nsIS")
    (method
    (codes "read")
    (value c.U32 ∷ arg (ByCell false) c.Ptr (notes.Count 0 0 c.Char) ∷ []) ∷ [])

-- readonly attribute AString title;
abbrev pub titles : Table
titles = descendant (codes "nsIS") (member kinds.Get (codes "title") (address ∷ []) ∷ [])

-- an interface that is declared and not defined, and has a name that no IDL file could spell; and
-- in nsIM : nsISupports a method with one of it that comes out
abbrev pub makers : Table
makers =
    record {
      ifaces =
          supports
          ∷ record { name = codes "ns I\\"; iid = replicate 16 0; resolved = false; parent = 0; slots = [] }
          ∷ iface
          (codes "nsIM")
          (replicate 16 1)
          1
          (method (codes "make") (arg (ByCell false) c.Ptr (notes.IfaceOf 2) ∷ []) ∷ []) ∷ [];
    }

-- void sh(in short v);
abbrev pub shorts : Table
shorts = descendant (codes "nsIE") (method (codes "sh") (value c.I16 ∷ []) ∷ [])

-- void b8(out boolean v);
abbrev pub booleans : Table
booleans = descendant (codes "nsIB") (method (codes "b8") (out c.Bool ∷ []) ∷ [])

-- void p(); [noscript] void h(); void q(); [notxpcom] void x(); void v(in jsval a);
abbrev pub closed_methods : Table
closed_methods =
    descendant
    (codes "nsIH")
    (method (codes "p") []
    ∷ closed statuses.Hidden (codes "h")
    ∷ method (codes "q") []
    ∷ closed statuses.NotXpcom (codes "x")
    ∷ closed statuses.Opaque (codes "v") ∷ [])
