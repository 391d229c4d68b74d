-- Which bytes denote a library, in the XPCOM typelib format: at which places what stands. All
-- numbers are big-endian. Offsets into the pool count its bytes from 1, and 0 is none. Parts of the
-- pool may stand in any order, be shared or leave gaps.
use Rattle.std.specs.Prelude.{◌≡◌, ◌⊎◌, ℕ, zero, suc, ◌+◌, ◌-◌, ◌%◌, ◌<◌, ◌≤◌, ℤ, pos, List, [], ◌∷◌, length, take, drop, slice_index, Option, Some, None}
use Rattle.std.specs.Int.{w16, w32, from_be_bytes, cast_signed}
use Rattle.std.specs.Int.RustNames.{bit_and}
use Rattle.xp_base.specs.declared.kinds.ConstKind.{ConstKind}
use Rattle.xp_base.specs.declared.kinds.ConstKind.TheVariants as kinds
use Rattle.lib_model.specs.declared.contents.Library.{Library}
use Rattle.lib_model.specs.declared.contents.Iface.{Iface}
use Rattle.lib_model.specs.declared.contents.Body.{Body}
use Rattle.lib_model.specs.declared.contents.Method.{Method}
use Rattle.lib_model.specs.declared.contents.Constant.{Constant}
use Rattle.lib_model.specs.declared.param_types.Param.{Param}
use Rattle.lib_model.specs.declared.param_types.XType.{XType}
use Rattle.lib_model.specs.declared.param_types.XType.TheVariants as types
use Rattle.lib_model.specs.declared.param_types.Elem.{Elem}
use Rattle.lib_model.specs.declared.param_types.Elem.TheVariants as elems
use Rattle.lib_model.specs.declared.tags.TheConstants as tags
use Rattle.lib_model.specs.Emit.{kind_tag, magic}
use Rattle.lib_model.specs.Valid.{IsPlainTag, IsValid, iface_bits, method_bits, param_bits}

-- ---- numbers

-- the number in one, two and four bytes from a place on; a byte past the end is 0
abbrev pub byte_at : List ℕ → ℕ → ℕ
byte_at x p = slice_index x p

abbrev pub half_at : List ℕ → ℕ → ℕ
half_at x p = from_be_bytes w16 (slice_index x p ∷ slice_index x (p + 1) ∷ [])

abbrev pub word_at : List ℕ → ℕ → ℕ
word_at x p =
    from_be_bytes w32
    (slice_index x p ∷ slice_index x (p + 1) ∷ slice_index x (p + 2) ∷ slice_index x (p + 3) ∷ [])

-- at place p stands this number, in one, two or four bytes
abbrev pub ByteStands : List ℕ → ℕ → ℕ → Type 0
ByteStands x p v = (p + 1 ≤ length x) × (byte_at x p ≡ v)

abbrev pub HalfStands : List ℕ → ℕ → ℕ → Type 0
HalfStands x p v = (p + 2 ≤ length x) × (half_at x p ≡ v)

abbrev pub WordStands : List ℕ → ℕ → ℕ → Type 0
WordStands x p v = (p + 4 ≤ length x) × (word_at x p ≡ v)

-- at place p stands a byte with these bits among the known ones; its other bits are free
abbrev pub FlagsStand : List ℕ → ℕ → ℕ → ℕ → Type 0
FlagsStand x p known bits = (p + 1 ≤ length x) × (bit_and (byte_at x p) known ≡ bits)

-- from p to q stand these values, one after the other
abbrev pub ListStands : {A : Type 0} → (ℕ → A → ℕ → Type 0) → ℕ → List A → ℕ → Type 0
ListStands Stands p [] q = q ≡ p
ListStands Stands p (v ∷ vs) q = (m : ℕ) × (Stands p v m × ListStands Stands m vs q)

-- ---- types and parameters

-- the low five bits of a type's byte are its tag; the upper bits are free
abbrev pub tag_at : List ℕ → ℕ → ℕ
tag_at x p = byte_at x p % 32

abbrev pub TagStands : List ℕ → ℕ → ℕ → Type 0
TagStands x p tag = (p + 1 ≤ length x) × (tag_at x p ≡ tag)

-- from p to q stands an element's type, and a type
abbrev pub ElemStands : List ℕ → ℕ → Elem → ℕ → Type 0
ElemStands x p (elems.Plain tag) q = TagStands x p tag × (q ≡ p + 1)
ElemStands x p (elems.Iface number) q =
    TagStands x p tags.INTERFACE × (HalfStands x (p + 1) number × (q ≡ p + 3))
ElemStands x p (elems.IidIs param) q =
    TagStands x p tags.INTERFACE_IS × (ByteStands x (p + 1) param × (q ≡ p + 2))

abbrev pub TypeStands : List ℕ → ℕ → XType → ℕ → Type 0
TypeStands x p (types.Plain tag) q = TagStands x p tag × (q ≡ p + 1)
TypeStands x p (types.Iface number) q =
    TagStands x p tags.INTERFACE × (HalfStands x (p + 1) number × (q ≡ p + 3))
TypeStands x p (types.IidIs param) q =
    TagStands x p tags.INTERFACE_IS × (ByteStands x (p + 1) param × (q ≡ p + 2))
TypeStands x p (types.Array size len elem) q =
    TagStands x p tags.ARRAY × (ByteStands x (p + 1) size × (ByteStands x (p + 2) len
    × ElemStands x (p + 3) elem q))
TypeStands x p (types.SizedString size len) q =
    TagStands x p tags.SIZED_STRING × (ByteStands x (p + 1) size × (ByteStands x (p + 2) len
    × (q ≡ p + 3)))
TypeStands x p (types.SizedWString size len) q =
    TagStands x p tags.SIZED_WSTRING × (ByteStands x (p + 1) size × (ByteStands x (p + 2) len
    × (q ≡ p + 3)))

abbrev pub ParamStands : List ℕ → ℕ → Param → ℕ → Type 0
ParamStands x p param q =
    FlagsStand x p param_bits param.flags.bits × TypeStands x (p + 1) param.ty q

-- a type of known form, whatever its numbers
abbrev pub HasElemForm : Elem → Type 0
HasElemForm (elems.Plain tag) = IsPlainTag tag
HasElemForm (elems.Iface number) = Unit {0}
HasElemForm (elems.IidIs param) = Unit {0}

abbrev pub HasForm : XType → Type 0
HasForm (types.Plain tag) = IsPlainTag tag
HasForm (types.Iface number) = Unit {0}
HasForm (types.IidIs param) = Unit {0}
HasForm (types.Array size len elem) = HasElemForm elem
HasForm (types.SizedString size len) = Unit {0}
HasForm (types.SizedWString size len) = Unit {0}

-- from p to q stands a result parameter: a byte that is free, and a type of known form
pub record ResultStands (x : List ℕ) (p q : ℕ) : Type 0 where
  pub ty : XType
  pub form : HasForm ty
  pub stands : TypeStands x (p + 1) ty q

-- ---- names

-- the file place of the pool
abbrev pub pool_of : List ℕ → ℕ
pool_of x = word_at x 28

-- the file place that an offset other than 0 names
abbrev pub place_of : List ℕ → ℕ → ℕ
place_of x offset = pool_of x + offset - 1

-- at place p stands this text, ended by a byte 0
pub record TextStands (x : List ℕ) (p : ℕ) (text : List ℕ) : Type 0 where
  pub inside : p + length text + 1 ≤ length x
  pub bytes : take (length text) (drop p x) ≡ text
  pub ended : byte_at x (p + length text) ≡ 0

-- at place p stands the offset, which is not 0, of this text
pub record NameStands (x : List ℕ) (p : ℕ) (name : List ℕ) : Type 0 where
  pub offset : ℕ
  pub stands : WordStands x p offset
  pub present : 0 < offset
  pub text : TextStands x (place_of x offset) name

-- at place p stands the offset of a namespace, 0 where there is none
abbrev pub NamespaceStands : List ℕ → ℕ → Option (List ℕ) → Type 0
NamespaceStands x p None = WordStands x p 0
NamespaceStands x p (Some name) = NameStands x p name

-- ---- members

-- from p to q stands a method: its flags, the offset of its name, the number of its parameters,
-- these, and a result parameter
pub record MethodStands (x : List ℕ) (p : ℕ) (m : Method) (q : ℕ) : Type 0 where
  pub flags : FlagsStand x p method_bits m.flags.bits
  pub name : NameStands x (p + 1) m.name
  pub count : ByteStands x (p + 5) (length m.params)
  pub params_end : ℕ
  pub params : ListStands (ParamStands x) (p + 6) m.params params_end
  pub last : ResultStands x params_end q

-- how many bytes a constant's value has, and the value that they are in two's complement
abbrev pub value_len : ConstKind → ℕ
value_len kinds.I16 = 2
value_len kinds.U16 = 2
value_len kinds.I32 = 4
value_len kinds.U32 = 4

abbrev pub value_at : List ℕ → ConstKind → ℕ → ℤ
value_at x kinds.I16 p = cast_signed w16 (half_at x p)
value_at x kinds.U16 p = pos (half_at x p)
value_at x kinds.I32 p = cast_signed w32 (word_at x p)
value_at x kinds.U32 p = pos (word_at x p)

-- from p to q stands a constant: the offset of its name, its type's byte, its value
pub record ConstantStands (x : List ℕ) (p : ℕ) (c : Constant) (q : ℕ) : Type 0 where
  pub name : NameStands x p c.name
  pub kind : TagStands x (p + 4) (kind_tag c.kind)
  pub inside : p + 5 + value_len c.kind ≤ length x
  pub value : value_at x c.kind (p + 5) ≡ c.value
  pub ends : q ≡ p + 5 + value_len c.kind

-- ---- interfaces

-- at place p stands an interface's descriptor: the parent's number, the number of methods, these,
-- the number of constants, these, and the flags
pub record DescriptorStands (x : List ℕ) (p : ℕ) (b : Body) : Type 0 where
  pub parent : HalfStands x p b.parent
  pub method_count : HalfStands x (p + 2) (length b.methods)
  pub methods_end : ℕ
  pub methods : ListStands (MethodStands x) (p + 4) b.methods methods_end
  pub constant_count : HalfStands x methods_end (length b.constants)
  pub constants_end : ℕ
  pub constants : ListStands (ConstantStands x) (methods_end + 2) b.constants constants_end
  pub flags : FlagsStand x constants_end iface_bits b.flags.bits

-- at place p stands the offset, which is not 0, of this body's descriptor
pub record OffsetOfBodyStands (x : List ℕ) (p : ℕ) (b : Body) : Type 0 where
  pub offset : ℕ
  pub stands : WordStands x p offset
  pub present : 0 < offset
  pub descriptor : DescriptorStands x (place_of x offset) b

-- at place p stands the offset of a descriptor, 0 where the interface is not resolved
abbrev pub BodyStands : List ℕ → ℕ → Option Body → Type 0
BodyStands x p None = WordStands x p 0
BodyStands x p (Some b) = OffsetOfBodyStands x p b

-- from p to q stands an interface's entry in the directory: its identifier and the offsets of its
-- name, namespace and descriptor
pub record EntryStands (x : List ℕ) (p : ℕ) (i : Iface) (q : ℕ) : Type 0 where
  pub iid : take 16 (drop p x) ≡ i.iid
  pub name : NameStands x (p + 16) i.name
  pub namespace : NamespaceStands x (p + 20) i.namespace
  pub body : BodyStands x (p + 24) i.body
  pub ends : q ≡ p + 28

-- ---- annotations

-- From p to q stands an annotation: a byte whose low seven bits are 0, or one where they are 1 and
-- two strings, each with its length before it. It may end where the file ends.
abbrev pub EmptyStands : List ℕ → ℕ → ℕ → Type 0
EmptyStands x p q = (byte_at x p % 128 ≡ 0) × (q ≡ p + 1)

abbrev pub PrivateStands : List ℕ → ℕ → ℕ → Type 0
PrivateStands x p q =
    (byte_at x p % 128 ≡ 1)
    × (q ≡ p + 5 + half_at x (p + 1) + half_at x (p + 3 + half_at x (p + 1)))

pub record AnnotationStands (x : List ℕ) (p q : ℕ) : Type 0 where
  pub form : EmptyStands x p q ⊎ PrivateStands x p q
  pub inside : q ≤ length x

-- from p on stand n annotations and the last one, which has its high bit set as none before it has
abbrev pub AnnotationsStand : List ℕ → ℕ → ℕ → Type 0
AnnotationsStand x p zero = (128 ≤ byte_at x p) × ((q : ℕ) × AnnotationStands x p q)
AnnotationsStand x p (suc n) =
    (byte_at x p < 128) × ((q : ℕ) × (AnnotationStands x p q × AnnotationsStand x q n))

-- ---- files

-- The bytes denote the library. The directory's place is counted from 1; it is free where there are
-- no interfaces.
pub record Denotes (x : List ℕ) (lib : Library) : Type 0 where
  pub valid : IsValid lib
  pub long : 32 ≤ length x
  pub starts : take 16 x ≡ magic
  pub major : ByteStands x 16 1
  pub minor : ByteStands x 17 2
  pub count : HalfStands x 18 (length lib.ifaces)
  pub file_length : WordStands x 20 (length x)
  pub annotation_count : ℕ
  pub annotations : AnnotationsStand x 32 annotation_count
  pub directory : 0 < length lib.ifaces → 0 < word_at x 24
  pub pool : pool_of x ≤ length x
  pub directory_end : ℕ
  pub ifaces : ListStands (EntryStands x) (word_at x 24 - 1) lib.ifaces directory_end
