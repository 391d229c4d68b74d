-- The first fault of bytes that are no typelib, in the order in which a typelib is read, with its
-- code and its place:
--
--     1  fewer than 32 bytes                              the length
--     2  another magic                                    0
--     3  a version other than 1.2                         16
--     4  a file length that is not the length             20
--     5  an annotation with another tag, or that ends     its first byte
--        past the file
--     6  a directory that ends past the file              24
--     7  a pool that begins past the file                 28
--     8  no name, or a name or namespace that is longer   the offset's field
--        than 255 bytes or not ended inside the file
--     9  the number of no interface, or of a parent       the number's first byte
--        that is not resolved
--    10  a chain of parents with more than 250            the entry
--        interfaces, or that does not end
--    11  a tag that is not allowed there                  the type's byte
--    12  an argument's number that is not a parameter's   the number's byte
--        of the type that is wanted
--    13  more than 1,000,000 items                        the item's first byte
--    14  more than 250 slots                              the entry
--    15  a field of a descriptor that ends past the file  the field's first byte
--
-- A later part may be read past the end: then an earlier fault has been found.
use Rattle.std.specs.Prelude.{◌≡◌, ℕ, zero, suc, ◌+◌, ◌-◌, ◌*◌, ◌%◌, List, length, take, slice_get, Option, Some, None, Result, Ok, Err, is_some, sum_by, Bool, true, false, not, ◌&&◌, ◌||◌, if◌then◌else◌, ◌==◌, nat_lt, nat_le}
use Rattle.std.specs.Str.{bytes_eq}
use Rattle.lib_model.specs.declared.contents.Iface.{Iface}
use Rattle.lib_model.specs.declared.tags.TheConstants as tags
use Rattle.lib_model.specs.declared.param_types.Param.{Param}
use Rattle.lib_model.specs.declared.param_types.XType.{XType}
use Rattle.lib_model.specs.declared.param_types.XType.TheVariants as types
use Rattle.lib_model.specs.declared.param_types.Elem.{Elem}
use Rattle.lib_model.specs.declared.param_types.Elem.TheVariants as elems
use Rattle.lib_model.specs.Denotes.{byte_at, half_at, place_of, pool_of, tag_at, value_len, word_at}
use Rattle.lib_model.specs.Emit.{magic}
use Rattle.lib_model.specs.Valid.{chain_of, own_slots, tag_of}
use Rattle.typelib_faults.specs.declared.cursor.Cursor.{Cursor}
use Rattle.typelib_faults.specs.declared.faults.BadTypelib.{BadTypelib}
use Rattle.typelib_faults.specs.Places.{constant_end, count_of, directory_of, elem_at, kind_at, entries_of, method_end, param_count_at, param_end, params_at, params_end, text_len, type_at}
use Rattle.typelib_faults.specs.Walk.{faulty, reach, walk, ◌orelse◌}

-- a field of n bytes that ends past the file
abbrev pub past : List ℕ → ℕ → ℕ → Option BadTypelib
past x p n = faulty (nat_lt (length x) (p + n)) 15 p

-- ---- the header

-- where an annotation ends
abbrev pub annotation_end : List ℕ → ℕ → ℕ
annotation_end x p =
    if byte_at x p % 128 == 0 then p + 1
    else p + 5 + half_at x (p + 1) + half_at x (p + 3 + half_at x (p + 1))

abbrev pub is_annotation : List ℕ → ℕ → Bool
is_annotation x p = nat_lt (byte_at x p % 128) 2 && nat_le (annotation_end x p) (length x)

-- the first fault of n annotations, or of fewer where one of them is the last
unfoldable pub annotations_fault : List ℕ → ℕ → ℕ → Option BadTypelib
annotations_fault x zero p = faulty true 5 p
annotations_fault x (suc n) p =
    faulty (not (is_annotation x p)) 5 p
    orelse (if nat_le 128 (byte_at x p) then None else annotations_fault x n (annotation_end x p))

abbrev pub is_directory_past : List ℕ → Bool
is_directory_past x =
    not (count_of x == 0)
    && (word_at x 24 == 0 || nat_lt (length x) (directory_of x + 28 * count_of x))

unfoldable pub header_fault : List ℕ → Option BadTypelib
header_fault x =
    faulty (nat_lt (length x) 32) 1 (length x)
    orelse faulty (not (bytes_eq (take 16 x) magic)) 2 0
    orelse faulty (not (byte_at x 16 == 1 && byte_at x 17 == 2)) 3 16
    orelse faulty (not (word_at x 20 == length x)) 4 20
    orelse annotations_fault x (length x) 32
    orelse faulty (is_directory_past x) 6 24
    orelse faulty (nat_lt (length x) (pool_of x)) 7 28

-- ---- items and names

-- an item is counted when it is reached
abbrev pub item_fault : Cursor → Option BadTypelib
item_fault c = faulty (nat_le 1000000 c.items) 13 c.place

-- a text of 1 to 255 bytes; None is one that is longer, or not ended
abbrev pub is_present : Option ℕ → Bool
is_present None = false
is_present (Some n) = nat_lt 0 n

unfoldable pub name_fault : List ℕ → ℕ → Option BadTypelib
name_fault x p = faulty
    (word_at x p == 0 || not (is_present (text_len x (place_of x (word_at x p))))) 8 p

unfoldable pub namespace_fault : List ℕ → ℕ → Option BadTypelib
namespace_fault x p = faulty
    (not (word_at x p == 0) && not (is_some (text_len x (place_of x (word_at x p))))) 8 p

-- ---- types and parameters

-- the bytes of an element's type lie inside the file, and its tag is known; then of a type
abbrev pub elem_rest_fault : List ℕ → ℕ → Elem → Option BadTypelib
elem_rest_fault x p (elems.Plain tag) = faulty
    (nat_lt tags.JSVAL tag || (nat_le tags.ARRAY tag && nat_le tag tags.SIZED_WSTRING))
    11 p
elem_rest_fault x p (elems.Iface number) = past x (p + 1) 2
elem_rest_fault x p (elems.IidIs param) = past x (p + 1) 1

unfoldable pub elem_form_fault : List ℕ → ℕ → Option BadTypelib
elem_form_fault x p = past x p 1 orelse elem_rest_fault x p (elem_at x p)

abbrev pub type_rest_fault : List ℕ → ℕ → XType → Option BadTypelib
type_rest_fault x p (types.Plain tag) = faulty (nat_lt tags.JSVAL tag) 11 p
type_rest_fault x p (types.Iface number) = past x (p + 1) 2
type_rest_fault x p (types.IidIs param) = past x (p + 1) 1
type_rest_fault x p (types.Array size len elem) = past x (p + 1) 1 orelse past x (p + 2) 1
    orelse elem_form_fault x (p + 3)
type_rest_fault x p (types.SizedString size len) = past x (p + 1) 1 orelse past x (p + 2) 1
type_rest_fault x p (types.SizedWString size len) = past x (p + 1) 1 orelse past x (p + 2) 1

unfoldable pub form_fault : List ℕ → ℕ → Option BadTypelib
form_fault x p = past x p 1 orelse type_rest_fault x p (type_at x p)

-- the number of an interface, which stands at the end of a type
abbrev pub number_fault : ℕ → ℕ → ℕ → Option BadTypelib
number_fault count number p = faulty (number == 0 || nat_lt count number) 9 p

abbrev pub elem_number_fault : ℕ → ℕ → Elem → Option BadTypelib
elem_number_fault count p (elems.Plain tag) = None
elem_number_fault count p (elems.Iface number) = number_fault count number (p + 1)
elem_number_fault count p (elems.IidIs param) = None

abbrev pub type_number_fault : ℕ → ℕ → XType → Option BadTypelib
type_number_fault count p (types.Plain tag) = None
type_number_fault count p (types.Iface number) = number_fault count number (p + 1)
type_number_fault count p (types.IidIs param) = None
type_number_fault count p (types.Array size len elem) = elem_number_fault count (p + 3) elem
type_number_fault count p (types.SizedString size len) = None
type_number_fault count p (types.SizedWString size len) = None

unfoldable pub type_fault : List ℕ → ℕ → Option BadTypelib
type_fault x p = form_fault x p orelse type_number_fault (count_of x) p (type_at x p)

unfoldable pub param_fault : List ℕ → Cursor → Option BadTypelib
param_fault x c = item_fault c orelse past x c.place 1 orelse type_fault x (c.place + 1)

abbrev pub param_next : List ℕ → Cursor → Cursor
param_next x c = record { place = param_end x c.place; items = c.items + 1 }

-- of a result parameter only the form of the type counts
unfoldable pub result_fault : List ℕ → ℕ → Option BadTypelib
result_fault x p = past x p 1 orelse form_fault x (p + 1)

-- ---- the numbers of arguments

abbrev pub has_count_tag : Option Param → Bool
has_count_tag None = false
has_count_tag (Some p) = nat_le (tag_of p.ty) tags.UINT64

abbrev pub has_iid_tag : Option Param → Bool
has_iid_tag None = false
has_iid_tag (Some p) = tag_of p.ty == tags.NSID

abbrev pub count_arg_fault : List Param → ℕ → ℕ → Option BadTypelib
count_arg_fault params number p = faulty (not (has_count_tag (slice_get params number))) 12 p

abbrev pub iid_arg_fault : List Param → ℕ → ℕ → Option BadTypelib
iid_arg_fault params number p = faulty (not (has_iid_tag (slice_get params number))) 12 p

abbrev pub elem_args_fault : List Param → ℕ → Elem → Option BadTypelib
elem_args_fault params p (elems.Plain tag) = None
elem_args_fault params p (elems.Iface number) = None
elem_args_fault params p (elems.IidIs param) = iid_arg_fault params param (p + 1)

abbrev pub type_args_fault : List Param → ℕ → XType → Option BadTypelib
type_args_fault params p (types.Plain tag) = None
type_args_fault params p (types.Iface number) = None
type_args_fault params p (types.IidIs param) = iid_arg_fault params param (p + 1)
type_args_fault params p (types.Array size len elem) =
    count_arg_fault params size (p + 1) orelse count_arg_fault params len (p + 2)
    orelse elem_args_fault params (p + 3) elem
type_args_fault params p (types.SizedString size len) = count_arg_fault params size (p + 1)
    orelse count_arg_fault params len (p + 2)
type_args_fault params p (types.SizedWString size len) = count_arg_fault params size (p + 1)
    orelse count_arg_fault params len (p + 2)

-- of the parameter at place p, in a method with these parameters
abbrev pub args_fault : List ℕ → List Param → ℕ → Option BadTypelib
args_fault x params p = type_args_fault params (p + 1) (type_at x (p + 1))

-- ---- members

abbrev pub params_cursor : Cursor → Cursor
params_cursor c = record { place = c.place + 6; items = c.items + 1 }

-- the method's numbers of arguments are tried when its result has been read
unfoldable pub method_fault : List ℕ → Cursor → Option BadTypelib
method_fault x c =
    item_fault c
    orelse past x c.place 1
    orelse past x (c.place + 1) 4
    orelse name_fault x (c.place + 1)
    orelse past x (c.place + 5) 1
    orelse walk (param_fault x) (param_next x) (params_cursor c) (param_count_at x c.place)
    orelse result_fault x (params_end x c.place)
    orelse walk (args_fault x (params_at x c.place)) (param_end x) (c.place + 6)
    (param_count_at x c.place)

abbrev pub method_next : List ℕ → Cursor → Cursor
method_next x c = record
    { place = method_end x c.place; items = c.items + 1 + param_count_at x c.place }

abbrev pub is_kind_tag : ℕ → Bool
is_kind_tag tag = (tag == tags.INT16 || tag == tags.INT32)
    || (tag == tags.UINT16 || tag == tags.UINT32)

unfoldable pub constant_fault : List ℕ → Cursor → Option BadTypelib
constant_fault x c =
    item_fault c
    orelse past x c.place 4
    orelse name_fault x c.place
    orelse past x (c.place + 4) 1
    orelse faulty (not (is_kind_tag (tag_at x (c.place + 4)))) 11 (c.place + 4)
    orelse past x (c.place + 5) (value_len (kind_at x (c.place + 4)))

abbrev pub constant_next : List ℕ → Cursor → Cursor
constant_next x c = record { place = constant_end x c.place; items = c.items + 1 }

-- ---- interfaces

-- whether this number, which is not 0, is that of an entry with a descriptor
abbrev pub has_descriptor : List ℕ → ℕ → Bool
has_descriptor x number =
    nat_le number (count_of x) && not (word_at x (directory_of x + 28 * (number - 1) + 24) == 0)

unfoldable pub parent_fault : List ℕ → ℕ → Option BadTypelib
parent_fault x p = faulty (not (half_at x p == 0) && not (has_descriptor x (half_at x p))) 9 p

-- where a descriptor's methods begin and end, and its constants
abbrev pub methods_cursor : Cursor → Cursor
methods_cursor c = record { place = c.place + 4; items = c.items }

abbrev pub methods_reach : List ℕ → Cursor → Cursor
methods_reach x c = reach (method_next x) (methods_cursor c) (half_at x (c.place + 2))

abbrev pub constants_cursor : Cursor → Cursor
constants_cursor m = record { place = m.place + 2; items = m.items }

abbrev pub constants_reach : List ℕ → Cursor → Cursor
constants_reach x c =
    reach (constant_next x) (constants_cursor (methods_reach x c))
    (half_at x (methods_reach x c).place)

unfoldable pub descriptor_fault : List ℕ → Cursor → Option BadTypelib
descriptor_fault x c =
    past x c.place 2
    orelse parent_fault x c.place
    orelse past x (c.place + 2) 2
    orelse walk (method_fault x) (method_next x) (methods_cursor c) (half_at x (c.place + 2))
    orelse past x (methods_reach x c).place 2
    orelse walk (constant_fault x) (constant_next x) (constants_cursor (methods_reach x c))
    (half_at x (methods_reach x c).place)
    orelse past x (constants_reach x c).place 1

-- the descriptor that the entry at c has, read when the entry is counted
abbrev pub descriptor_cursor : List ℕ → Cursor → Cursor
descriptor_cursor x c = record
    { place = place_of x (word_at x (c.place + 24)); items = c.items + 1 }

unfoldable pub body_fault : List ℕ → Cursor → Option BadTypelib
body_fault x c = if word_at x (c.place + 24) == 0 then None
    else descriptor_fault x (descriptor_cursor x c)

-- how many items have been counted when the entry at c has been read
unfoldable pub items_after : List ℕ → Cursor → ℕ
items_after x c = if word_at x (c.place + 24) == 0 then c.items + 1
    else (constants_reach x (descriptor_cursor x c)).items

unfoldable pub entry_fault : List ℕ → Cursor → Option BadTypelib
entry_fault x c =
    item_fault c orelse name_fault x (c.place + 16) orelse namespace_fault x (c.place + 20)
    orelse body_fault x c

abbrev pub entry_next : List ℕ → Cursor → Cursor
entry_next x c = record { place = c.place + 28; items = items_after x c }

-- ---- chains of parents

-- of the interface of this number
unfoldable pub chain_fault : List ℕ → List Iface → ℕ → Option BadTypelib
chain_fault x ifaces number =
    faulty (nat_lt 250 (length (chain_of ifaces number))) 10 (directory_of x + 28 * (number - 1))
    orelse faulty (nat_lt 250 (sum_by (own_slots ifaces) (chain_of ifaces number))) 14
    (directory_of x + 28 * (number - 1))

-- ---- files

abbrev pub directory_cursor : List ℕ → Cursor
directory_cursor x = record { place = directory_of x; items = 0 }

unfoldable pub first_fault : List ℕ → Option BadTypelib
first_fault x =
    header_fault x
    orelse walk (entry_fault x) (entry_next x) (directory_cursor x) (count_of x)
    orelse walk (chain_fault x (entries_of x)) (λ k. k + 1) 1 (count_of x)

-- what a reader of a part gives: the value that stands there, or the first fault
abbrev pub Gives : {A B : Type 0} → (A → B) → Result A BadTypelib → Option BadTypelib → B → Type 0
Gives view (Ok v) fault value = (fault ≡ None) × (view v ≡ value)
Gives view (Err e) fault value = fault ≡ Some e

-- and what a test of a part gives
abbrev pub Tries : {A : Type 0} → Result A BadTypelib → Option BadTypelib → Type 0
Tries (Ok v) fault = fault ≡ None
Tries (Err e) fault = fault ≡ Some e
