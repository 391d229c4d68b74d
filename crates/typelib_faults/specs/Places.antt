-- What a typelib's bytes say at a place, and where the part that begins there ends. All of it is
-- there for any bytes: past the end a byte is 0, and a text that no byte 0 ends is empty. Whether
-- bytes are a typelib is said by their first fault.
use Rattle.std.specs.Prelude.{ℕ, ◌+◌, ◌-◌, List, take, drop, Option, Some, None, unwrap_or, if◌then◌else◌, ◌==◌}
use Rattle.std.specs.List.{position}
use Rattle.std.specs.Int.RustNames.{bit_and}
use Rattle.xp_base.specs.declared.kinds.ConstKind.{ConstKind}
use Rattle.xp_base.specs.declared.kinds.ConstKind.TheVariants as kinds
use Rattle.lib_model.specs.declared.contents.Library.{Library}
use Rattle.lib_model.specs.declared.contents.Iface.{Iface}
use Rattle.lib_model.specs.declared.contents.Body.{Body}
use Rattle.lib_model.specs.declared.contents.Method.{Method}
use Rattle.lib_model.specs.declared.contents.Constant.{Constant}
use Rattle.lib_model.specs.declared.tags.TheConstants as tags
use Rattle.lib_model.specs.declared.param_types.Param.{Param}
use Rattle.lib_model.specs.declared.param_types.XType.{XType}
use Rattle.lib_model.specs.declared.param_types.XType.TheVariants as types
use Rattle.lib_model.specs.declared.param_types.Elem.{Elem}
use Rattle.lib_model.specs.declared.param_types.Elem.TheVariants as elems
use Rattle.lib_model.specs.Denotes.{byte_at, half_at, place_of, tag_at, value_at, value_len, word_at}
use Rattle.lib_model.specs.Valid.{iface_bits, method_bits, param_bits}
use Rattle.typelib_faults.specs.Walk.{reach, values}

-- ---- types and parameters

abbrev pub elem_by_tag : List ℕ → ℕ → ℕ → Elem
elem_by_tag x p tag =
    if tag == tags.INTERFACE then elems.Iface (half_at x (p + 1))
    else (if tag == tags.INTERFACE_IS then elems.IidIs (byte_at x (p + 1)) else elems.Plain tag)

unfoldable pub elem_at : List ℕ → ℕ → Elem
elem_at x p = elem_by_tag x p (tag_at x p)

abbrev pub type_by_tag : List ℕ → ℕ → ℕ → XType
type_by_tag x p tag =
    if tag == tags.INTERFACE then types.Iface (half_at x (p + 1))
    else (if tag == tags.INTERFACE_IS then types.IidIs (byte_at x (p + 1))
    else (if tag == tags.ARRAY
    then types.Array (byte_at x (p + 1)) (byte_at x (p + 2)) (elem_at x (p + 3))
    else (if tag == tags.SIZED_STRING then types.SizedString (byte_at x (p + 1)) (byte_at x (p + 2))
    else (if tag == tags.SIZED_WSTRING
    then types.SizedWString (byte_at x (p + 1)) (byte_at x (p + 2))
    else types.Plain tag))))

unfoldable pub type_at : List ℕ → ℕ → XType
type_at x p = type_by_tag x p (tag_at x p)

-- how many bytes a type has
abbrev pub elem_len : Elem → ℕ
elem_len (elems.Plain tag) = 1
elem_len (elems.Iface number) = 3
elem_len (elems.IidIs param) = 2

abbrev pub type_len : XType → ℕ
type_len (types.Plain tag) = 1
type_len (types.Iface number) = 3
type_len (types.IidIs param) = 2
type_len (types.Array size len elem) = 3 + elem_len elem
type_len (types.SizedString size len) = 3
type_len (types.SizedWString size len) = 3

abbrev pub param_at : List ℕ → ℕ → Param
param_at x p = record
    { flags = record { bits = bit_and (byte_at x p) param_bits }; ty = type_at x (p + 1) }

-- of a result too
abbrev pub param_end : List ℕ → ℕ → ℕ
param_end x p = p + 1 + type_len (type_at x (p + 1))

-- ---- names

-- how long the text is that begins at a place and is ended by a byte 0, where that has at most 255
-- bytes
abbrev pub text_len : List ℕ → ℕ → Option ℕ
text_len x p = position (λ b. b == 0) (take 256 (drop p x))

abbrev pub text_at : List ℕ → ℕ → List ℕ
text_at x p = take (unwrap_or (text_len x p) 0) (drop p x)

-- the name whose offset stands at a place
unfoldable pub name_at : List ℕ → ℕ → List ℕ
name_at x p = text_at x (place_of x (word_at x p))

unfoldable pub namespace_at : List ℕ → ℕ → Option (List ℕ)
namespace_at x p = if word_at x p == 0 then None else Some (name_at x p)

-- ---- members

abbrev pub param_count_at : List ℕ → ℕ → ℕ
param_count_at x p = byte_at x (p + 5)

abbrev pub params_at : List ℕ → ℕ → List Param
params_at x p = values (param_at x) (param_end x) (p + 6) (param_count_at x p)

abbrev pub params_end : List ℕ → ℕ → ℕ
params_end x p = reach (param_end x) (p + 6) (param_count_at x p)

unfoldable pub method_at : List ℕ → ℕ → Method
method_at x p = record {
  name = name_at x (p + 1);
  flags = record { bits = bit_and (byte_at x p) method_bits };
  params = params_at x p;
}

unfoldable pub method_end : List ℕ → ℕ → ℕ
method_end x p = param_end x (params_end x p)

abbrev pub kind_by_tag : ℕ → ConstKind
kind_by_tag tag =
    if tag == tags.INT16 then kinds.I16
    else (if tag == tags.INT32 then kinds.I32
    else (if tag == tags.UINT16 then kinds.U16 else kinds.U32))

abbrev pub kind_at : List ℕ → ℕ → ConstKind
kind_at x p = kind_by_tag (tag_at x p)

unfoldable pub constant_at : List ℕ → ℕ → Constant
constant_at x p = record {
  name = name_at x p;
  kind = kind_at x (p + 4);
  value = value_at x (kind_at x (p + 4)) (p + 5);
}

unfoldable pub constant_end : List ℕ → ℕ → ℕ
constant_end x p = p + 5 + value_len (kind_at x (p + 4))

-- ---- interfaces

abbrev pub methods_end : List ℕ → ℕ → ℕ
methods_end x p = reach (method_end x) (p + 4) (half_at x (p + 2))

abbrev pub constants_end : List ℕ → ℕ → ℕ
constants_end x p = reach (constant_end x) (methods_end x p + 2) (half_at x (methods_end x p))

unfoldable pub descriptor_at : List ℕ → ℕ → Body
descriptor_at x p = record {
  parent = half_at x p;
  methods = values (method_at x) (method_end x) (p + 4) (half_at x (p + 2));
  constants = values (constant_at x) (constant_end x) (methods_end x p + 2)
      (half_at x (methods_end x p));
  flags = record { bits = bit_and (byte_at x (constants_end x p)) iface_bits };
}

-- the body whose descriptor's offset stands at a place
unfoldable pub body_at : List ℕ → ℕ → Option Body
body_at x p = if word_at x p == 0 then None else Some (descriptor_at x (place_of x (word_at x p)))

unfoldable pub entry_at : List ℕ → ℕ → Iface
entry_at x p = record {
  name = name_at x (p + 16);
  namespace = namespace_at x (p + 20);
  iid = take 16 (drop p x);
  body = body_at x (p + 24);
}

abbrev pub entry_end : ℕ → ℕ
entry_end p = p + 28

-- ---- files

abbrev pub count_of : List ℕ → ℕ
count_of x = half_at x 18

-- the file place of the directory
abbrev pub directory_of : List ℕ → ℕ
directory_of x = word_at x 24 - 1

abbrev pub entries_of : List ℕ → List Iface
entries_of x = values (entry_at x) entry_end (directory_of x) (count_of x)

unfoldable pub library_of : List ℕ → Library
library_of x = record { ifaces = entries_of x }
