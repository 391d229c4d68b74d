-- The parts of a file that are reached from its directory: where each stands, and how many items
-- come before it. An item is counted as often as it is reached.
use Rattle.std.specs.Prelude.{◌≡◌, ◌≢◌, ℕ, ◌+◌, ◌*◌, ◌<◌, ◌≤◌, List, length, sum_by}
use Rattle.lib_model.specs.declared.contents.Iface.{Iface}
use Rattle.lib_model.specs.declared.contents.Method.{Method}
use Rattle.lib_model.specs.declared.tags.TheConstants as tags
use Rattle.lib_model.specs.Denotes.{half_at, place_of, tag_at, value_len, word_at}
use Rattle.lib_model.specs.Valid.{iface_items}
use Rattle.typelib_faults.specs.declared.cursor.Cursor.{Cursor}
use Rattle.typelib_faults.specs.Places.{constant_end, constants_end, count_of, directory_of, entry_at, entry_end, kind_at, method_at, method_end, methods_end, param_count_at, param_end, params_end}
use Rattle.typelib_faults.specs.Walk.{reach, values}

-- ---- items: at a cursor's place stands one, and so many come before it

abbrev pub first_ifaces : List ℕ → ℕ → List Iface
first_ifaces x n = values (entry_at x) entry_end (directory_of x) n

-- an entry of the directory
pub record IsEntryAt (x : List ℕ) (c : Cursor) : Type 0 where
  pub before : ℕ
  pub below : before < count_of x
  pub place : c.place ≡ directory_of x + 28 * before
  pub items : c.items ≡ sum_by iface_items (first_ifaces x before)

-- the descriptor of an entry; it is no item itself
pub record IsDescriptorAt (x : List ℕ) (c : Cursor) : Type 0 where
  pub entry : Cursor
  pub entry_is : IsEntryAt x entry
  pub present : word_at x (entry.place + 24) ≢ 0
  pub place : c.place ≡ place_of x (word_at x (entry.place + 24))
  pub items : c.items ≡ entry.items + 1

-- the first n methods of the descriptor at a place, and how many items each of them is
abbrev pub first_methods : List ℕ → ℕ → ℕ → List Method
first_methods x p n = values (method_at x) (method_end x) (p + 4) n

abbrev pub all_methods : List ℕ → ℕ → List Method
all_methods x p = first_methods x p (half_at x (p + 2))

abbrev pub method_items : Method → ℕ
method_items m = 1 + length m.params

pub record IsMethodAt (x : List ℕ) (c : Cursor) : Type 0 where
  pub descriptor : Cursor
  pub descriptor_is : IsDescriptorAt x descriptor
  pub before : ℕ
  pub below : before < half_at x (descriptor.place + 2)
  pub place : c.place ≡ reach (method_end x) (descriptor.place + 4) before
  pub items : c.items
      ≡ descriptor.items + sum_by method_items (first_methods x descriptor.place before)

-- a parameter of the method at this cursor
pub record IsParamAt (x : List ℕ) (method c : Cursor) : Type 0 where
  pub method_is : IsMethodAt x method
  pub before : ℕ
  pub below : before < param_count_at x method.place
  pub place : c.place ≡ reach (param_end x) (method.place + 6) before
  pub items : c.items ≡ method.items + 1 + before

pub record IsConstantAt (x : List ℕ) (c : Cursor) : Type 0 where
  pub descriptor : Cursor
  pub descriptor_is : IsDescriptorAt x descriptor
  pub before : ℕ
  pub below : before < half_at x (methods_end x descriptor.place)
  pub place : c.place ≡ reach (constant_end x) (methods_end x descriptor.place + 2) before
  pub items : c.items
      ≡ descriptor.items + sum_by method_items (all_methods x descriptor.place) + before

pub data IsItemAt (x : List ℕ) (c : Cursor) : Type 0 where
  entry_item : IsEntryAt x c → IsItemAt x c
  method_item : IsMethodAt x c → IsItemAt x c
  param_item : {m : Cursor} → IsParamAt x m c → IsItemAt x c
  constant_item : IsConstantAt x c → IsItemAt x c

-- ---- types

-- the result parameter of a method; it is no item
pub record IsResultAt (x : List ℕ) (p : ℕ) : Type 0 where
  pub method : Cursor
  pub method_is : IsMethodAt x method
  pub place : p ≡ params_end x method.place

-- the type of a parameter of the method at this cursor; or of any parameter or result
pub data IsParamTypeAt (x : List ℕ) (m : Cursor) : ℕ → Type 0 where
  type_of_param : {c : Cursor} → IsParamAt x m c → IsParamTypeAt x m (c.place + 1)

pub data IsTypeAt (x : List ℕ) : ℕ → Type 0 where
  param_type : {m : Cursor} {p : ℕ} → IsParamTypeAt x m p → IsTypeAt x p
  result_type : {p : ℕ} → IsResultAt x p → IsTypeAt x (p + 1)

-- the type of an array's elements
pub data IsElemAt (x : List ℕ) : ℕ → Type 0 where
  elem_of_array : {p : ℕ} → IsTypeAt x p → tag_at x p ≡ tags.ARRAY → IsElemAt x (p + 3)

-- an array, a sized string or a sized wide string: a size and a length follow the tag
abbrev pub IsSizedTag : ℕ → Type 0
IsSizedTag tag = (tags.ARRAY ≤ tag) × (tag ≤ tags.SIZED_WSTRING)

-- ---- fields

-- at a place stands the offset of a name; or that of a namespace
pub data IsNameAt (x : List ℕ) : ℕ → Type 0 where
  name_of_entry : {c : Cursor} → IsEntryAt x c → IsNameAt x (c.place + 16)
  name_of_method : {c : Cursor} → IsMethodAt x c → IsNameAt x (c.place + 1)
  name_of_constant : {c : Cursor} → IsConstantAt x c → IsNameAt x c.place

pub data IsNamespaceAt (x : List ℕ) : ℕ → Type 0 where
  namespace_of_entry : {c : Cursor} → IsEntryAt x c → IsNamespaceAt x (c.place + 20)

-- at a place stands the number of an interface, in the type of a parameter or of the elements of
-- an array there; in the type of a result it is free
pub data IsNumberAt (x : List ℕ) : ℕ → Type 0 where
  number_of_type : {m : Cursor} {p : ℕ} → IsParamTypeAt x m p → tag_at x p ≡ tags.INTERFACE
      → IsNumberAt x (p + 1)
  number_of_elem : {m : Cursor} {p : ℕ} → IsParamTypeAt x m p → tag_at x p ≡ tags.ARRAY
      → tag_at x (p + 3) ≡ tags.INTERFACE → IsNumberAt x (p + 3 + 1)

-- in the type at p stands, at a place, the number of the argument that tells a size or a length; or
-- of the one that tells an interface's identifier
pub data IsCountArgAt (x : List ℕ) (p : ℕ) : ℕ → Type 0 where
  size_of_type : IsSizedTag (tag_at x p) → IsCountArgAt x p (p + 1)
  length_of_type : IsSizedTag (tag_at x p) → IsCountArgAt x p (p + 2)

pub data IsIidArgAt (x : List ℕ) (p : ℕ) : ℕ → Type 0 where
  iid_of_type : tag_at x p ≡ tags.INTERFACE_IS → IsIidArgAt x p (p + 1)
  iid_of_elem : tag_at x p ≡ tags.ARRAY → tag_at x (p + 3) ≡ tags.INTERFACE_IS
      → IsIidArgAt x p (p + 3 + 1)

-- at a place stands a field of a descriptor, of so many bytes
pub data IsFieldAt (x : List ℕ) : ℕ → ℕ → Type 0 where
  parent_field : {c : Cursor} → IsDescriptorAt x c → IsFieldAt x c.place 2
  method_count_field : {c : Cursor} → IsDescriptorAt x c → IsFieldAt x (c.place + 2) 2
  constant_count_field : {c : Cursor} → IsDescriptorAt x c → IsFieldAt x (methods_end x c.place) 2
  iface_flags_field : {c : Cursor} → IsDescriptorAt x c → IsFieldAt x (constants_end x c.place) 1
  method_flags_field : {c : Cursor} → IsMethodAt x c → IsFieldAt x c.place 1
  method_name_field : {c : Cursor} → IsMethodAt x c → IsFieldAt x (c.place + 1) 4
  param_count_field : {c : Cursor} → IsMethodAt x c → IsFieldAt x (c.place + 5) 1
  param_flags_field : {m c : Cursor} → IsParamAt x m c → IsFieldAt x c.place 1
  result_flags_field : {p : ℕ} → IsResultAt x p → IsFieldAt x p 1
  type_tag_field : {p : ℕ} → IsTypeAt x p → IsFieldAt x p 1
  type_number_field : {p : ℕ} → IsTypeAt x p → tag_at x p ≡ tags.INTERFACE → IsFieldAt x (p + 1) 2
  type_iid_field : {p : ℕ} → IsTypeAt x p → tag_at x p ≡ tags.INTERFACE_IS → IsFieldAt x (p + 1) 1
  type_size_field : {p : ℕ} → IsTypeAt x p → IsSizedTag (tag_at x p) → IsFieldAt x (p + 1) 1
  type_length_field : {p : ℕ} → IsTypeAt x p → IsSizedTag (tag_at x p) → IsFieldAt x (p + 2) 1
  elem_tag_field : {p : ℕ} → IsElemAt x p → IsFieldAt x p 1
  elem_number_field : {p : ℕ} → IsElemAt x p → tag_at x p ≡ tags.INTERFACE → IsFieldAt x (p + 1) 2
  elem_iid_field : {p : ℕ} → IsElemAt x p → tag_at x p ≡ tags.INTERFACE_IS → IsFieldAt x (p + 1) 1
  constant_name_field : {c : Cursor} → IsConstantAt x c → IsFieldAt x c.place 4
  constant_tag_field : {c : Cursor} → IsConstantAt x c → IsFieldAt x (c.place + 4) 1
  constant_value_field : {c : Cursor} → IsConstantAt x c
      → IsFieldAt x (c.place + 5) (value_len (kind_at x (c.place + 4)))
