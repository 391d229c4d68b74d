-- The bytes that are emitted for a library: a header of 32 bytes, one empty annotation, the
-- directory and the pool, as the XPCOM typelib format has them. All numbers are big-endian. An
-- offset into the pool counts its bytes from 1, and 0 is none.
use Rattle.std.specs.Prelude.{ℕ, ◌+◌, ◌*◌, nat_le, ℤ, List, [], ◌∷◌, ◌++◌, length, Option, Some, None, sum_by, if◌then◌else◌}
use Rattle.std.specs.Int.{w16, w32, to_be_bytes, cast_unsigned}
use Rattle.std.specs.List.{flat_map}
use Rattle.xp_base.specs.declared.kinds.ConstKind.{ConstKind}
use Rattle.xp_base.specs.declared.kinds.ConstKind.TheVariants as kinds
use Rattle.lib_model.specs.declared.contents.Library.{Library}
use Rattle.lib_model.specs.declared.contents.Iface.{Iface}
use Rattle.lib_model.specs.declared.contents.Body.{Body}
use Rattle.lib_model.specs.declared.contents.Method.{Method}
use Rattle.lib_model.specs.declared.contents.Constant.{Constant}
use Rattle.lib_model.specs.declared.param_types.Param.{Param}
use Rattle.lib_model.specs.declared.param_types.XType.{XType}
use Rattle.lib_model.specs.declared.param_types.XType.TheVariants as types
use Rattle.lib_model.specs.declared.param_types.Elem.{Elem}
use Rattle.lib_model.specs.declared.param_types.Elem.TheVariants as elems
use Rattle.lib_model.specs.declared.tags.TheConstants as tags

-- a number in two bytes, and in four
unfoldable pub two_bytes : ℕ → List ℕ
two_bytes n = to_be_bytes w16 n

unfoldable pub four_bytes : ℕ → List ℕ
four_bytes n = to_be_bytes w32 n

-- The texts of items, one after the other. The text of an item knows the offset at which the item's
-- part of the pool begins; the part of the first begins at k, and an item's part has `size` bytes.
abbrev pub placed : {A : Type 0} → (ℕ → A → List ℕ) → (A → ℕ) → ℕ → List A → List ℕ
placed text size k [] = []
placed text size k (x ∷ xs) = text k x ++ placed text size (k + size x) xs

-- ---- types and parameters

-- a type's byte is its tag, and a tag behind the characters' is that of a pointer, with the bit 80
-- (hexadecimal)
abbrev pub tag_byte : ℕ → ℕ
tag_byte tag = if nat_le tag tags.WCHAR then tag else tag + 128

unfoldable pub elem_text : Elem → List ℕ
elem_text (elems.Plain tag) = tag_byte tag ∷ []
elem_text (elems.Iface number) = tag_byte tags.INTERFACE ∷ two_bytes number
elem_text (elems.IidIs param) = tag_byte tags.INTERFACE_IS ∷ param ∷ []

unfoldable pub type_text : XType → List ℕ
type_text (types.Plain tag) = tag_byte tag ∷ []
type_text (types.Iface number) = tag_byte tags.INTERFACE ∷ two_bytes number
type_text (types.IidIs param) = tag_byte tags.INTERFACE_IS ∷ param ∷ []
type_text (types.Array size len elem) = tag_byte tags.ARRAY ∷ size ∷ len ∷ elem_text elem
type_text (types.SizedString size len) = tag_byte tags.SIZED_STRING ∷ size ∷ len ∷ []
type_text (types.SizedWString size len) = tag_byte tags.SIZED_WSTRING ∷ size ∷ len ∷ []

unfoldable pub param_text : Param → List ℕ
param_text p = p.flags.bits ∷ type_text p.ty

-- the result parameter of every method: no flags, and the type uint32
abbrev pub result_text : List ℕ
result_text = 0 ∷ tags.UINT32 ∷ []

-- ---- names

-- a name is ended by a byte 0
unfoldable pub name_text : List ℕ → List ℕ
name_text name = name ++ 0 ∷ []

abbrev pub name_size : List ℕ → ℕ
name_size name = length name + 1

abbrev pub namespace_text : Option (List ℕ) → List ℕ
namespace_text None = []
namespace_text (Some name) = name_text name

abbrev pub method_names : List Method → List ℕ
method_names methods = flat_map (λ m. name_text m.name) methods

abbrev pub constant_names : List Constant → List ℕ
constant_names constants = flat_map (λ c. name_text c.name) constants

-- ---- members

-- a method whose name stands at offset k
unfoldable pub method_text : ℕ → Method → List ℕ
method_text k m =
    m.flags.bits ∷ (four_bytes k
    ++ (length m.params ∷ (flat_map param_text m.params ++ result_text)))

abbrev pub method_size : Method → ℕ
method_size m = name_size m.name

-- the tag of a constant's type, and its value in two's complement
abbrev pub kind_tag : ConstKind → ℕ
kind_tag kinds.I16 = tags.INT16
kind_tag kinds.I32 = tags.INT32
kind_tag kinds.U16 = tags.UINT16
kind_tag kinds.U32 = tags.UINT32

abbrev pub value_text : ConstKind → ℤ → List ℕ
value_text kinds.I16 value = two_bytes (cast_unsigned w16 value)
value_text kinds.U16 value = two_bytes (cast_unsigned w16 value)
value_text kinds.I32 value = four_bytes (cast_unsigned w32 value)
value_text kinds.U32 value = four_bytes (cast_unsigned w32 value)

-- a constant whose name stands at offset k
unfoldable pub constant_text : ℕ → Constant → List ℕ
constant_text k c = four_bytes k ++ (kind_tag c.kind ∷ value_text c.kind c.value)

abbrev pub constant_size : Constant → ℕ
constant_size c = name_size c.name

-- ---- interfaces

-- the names of a resolved interface's members
unfoldable pub member_names : Body → List ℕ
member_names b = method_names b.methods ++ constant_names b.constants

-- the descriptor of a resolved interface, the names of whose members begin at offset k
unfoldable pub descriptor_text : ℕ → Body → List ℕ
descriptor_text k b =
    two_bytes b.parent
    ++ (two_bytes (length b.methods) ++ (placed method_text method_size k b.methods
    ++ (two_bytes (length b.constants)
    ++ (placed constant_text constant_size (k + sum_by method_size b.methods) b.constants
    ++ (b.flags.bits ∷ [])))))

-- an interface's part of the pool, which begins at offset k: its name, its namespace, and where it
-- is resolved the names of its members and its descriptor
abbrev pub own_names : Iface → List ℕ
own_names i = name_text i.name ++ namespace_text i.namespace

abbrev pub body_names : Option Body → List ℕ
body_names None = []
body_names (Some b) = member_names b

abbrev pub body_text : ℕ → Option Body → List ℕ
body_text k None = []
body_text k (Some b) = member_names b ++ descriptor_text k b

unfoldable pub part_text : ℕ → Iface → List ℕ
part_text k i = own_names i ++ body_text (k + length (own_names i)) i.body

unfoldable pub part_size : Iface → ℕ
part_size i = length (part_text 1 i)

-- an offset where there is something that stands there, else 0
abbrev pub offset_if : {A : Type 0} → Option A → ℕ → ℕ
offset_if None k = 0
offset_if (Some x) k = k

-- where the namespace and the descriptor of an interface stand, whose part of the pool begins at
-- offset k
abbrev pub namespace_offset : ℕ → Iface → ℕ
namespace_offset k i = offset_if i.namespace (k + name_size i.name)

abbrev pub descriptor_offset : ℕ → Iface → ℕ
descriptor_offset k i = offset_if i.body (k + length (own_names i) + length (body_names i.body))

-- the entry in the directory of an interface whose part of the pool begins at offset k
unfoldable pub entry_text : ℕ → Iface → List ℕ
entry_text k i =
    i.iid ++ (four_bytes k
    ++ (four_bytes (namespace_offset k i) ++ four_bytes (descriptor_offset k i)))

-- ---- the file

unfoldable pub directory_text : List Iface → List ℕ
directory_text ifaces = placed entry_text part_size 1 ifaces

unfoldable pub pool_text : List Iface → List ℕ
pool_text ifaces = placed part_text part_size 1 ifaces

-- where the directory and the pool begin, counted from 0: behind 32 bytes of header and 4 of
-- annotation; an entry has 28 bytes
abbrev pub directory_place : ℕ
directory_place = 36

abbrev pub pool_place : ℕ → ℕ
pool_place count = directory_place + 28 * count

-- the first 16 bytes of every typelib
abbrev pub magic : List ℕ
magic = 88 ∷ 80 ∷ 67 ∷ 79 ∷ 77 ∷ 10 ∷ 84 ∷ 121 ∷ 112 ∷ 101 ∷ 76 ∷ 105 ∷ 98 ∷ 13 ∷ 10 ∷ 26 ∷ []

-- the header for so many interfaces and so many bytes of pool: the magic, version 1.2, the number
-- of interfaces, the file's length, the directory's place counted from 1, and the pool's place
unfoldable pub header_text : ℕ → ℕ → List ℕ
header_text count pool_len =
    magic ++ (1 ∷ 2 ∷ (two_bytes count
    ++ (four_bytes (pool_place count + pool_len)
    ++ (four_bytes (directory_place + 1) ++ four_bytes (pool_place count)))))

-- the one annotation, which is the last and empty, and three bytes that fill up
abbrev pub annotation_text : List ℕ
annotation_text = 128 ∷ 0 ∷ 0 ∷ 0 ∷ []

unfoldable pub emit : Library → List ℕ
emit lib =
    header_text (length lib.ifaces) (length (pool_text lib.ifaces))
    ++ (annotation_text ++ (directory_text lib.ifaces ++ pool_text lib.ifaces))
