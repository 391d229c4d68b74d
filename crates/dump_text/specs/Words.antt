-- The words for what a typelib says by flags and tags.
use Rattle.std.specs.Prelude.{ℕ, pos, List, [], ◌∷◌, ◌++◌, codes}
use Rattle.std.specs.List.{join_with_byte, slice_index_or}
use Rattle.xp_base.specs.Digits.{decimal_text}
use Rattle.xp_base.specs.declared.kinds.ConstKind.{ConstKind}
use Rattle.xp_base.specs.declared.kinds.ConstKind.TheVariants as kinds
use Rattle.call_model.specs.declared.prototypes.MemberKind.{MemberKind}
use Rattle.call_model.specs.declared.prototypes.MemberKind.TheVariants as members
use Rattle.lib_model.specs.declared.flags.IfaceFlags.{IfaceFlags}
use Rattle.lib_model.specs.declared.flags.MethodFlags.{MethodFlags}
use Rattle.lib_model.specs.declared.flags.ParamFlags.{ParamFlags}
use Rattle.lib_model.specs.declared.flags.TheConstants.IfaceFlags as iface
use Rattle.lib_model.specs.declared.flags.TheConstants.MethodFlags as method
use Rattle.lib_model.specs.declared.flags.TheConstants.ParamFlags as param
use Rattle.lib_model.specs.declared.param_types.Param.{Param}
use Rattle.lib_model.specs.declared.param_types.XType.{XType}
use Rattle.lib_model.specs.declared.param_types.XType.TheVariants as types
use Rattle.lib_model.specs.declared.param_types.Elem.{Elem}
use Rattle.lib_model.specs.declared.param_types.Elem.TheVariants as elems
use Rattle.lib_model.specs.declared.tags.TheConstants as tags
use Rattle.lib_model.specs.Table.{has}
use Rattle.dump_text.specs.Lines.{marked}
use Rattle.dump_text.specs.declared.words.TheConstants.{COLON, COMMA, PLUS}

-- ---- flags

abbrev pub iface_word : IfaceFlags → List ℕ
iface_word flags =
    marked COMMA
    ((has flags.bits iface.SCRIPTABLE.bits, codes "scriptable")
    ∷ (has flags.bits iface.FUNCTION.bits, codes "function")
    ∷ (has flags.bits iface.BUILTINCLASS.bits, codes "builtinclass") ∷ [])

-- getter and setter are told by the kind of the slot
abbrev pub method_word : MethodFlags → List ℕ
method_word flags =
    marked COMMA
    ((has flags.bits method.NOTXPCOM.bits, codes "notxpcom")
    ∷ (has flags.bits method.CONSTRUCTOR.bits, codes "constructor")
    ∷ (has flags.bits method.HIDDEN.bits, codes "hidden")
    ∷ (has flags.bits method.OPTIONAL_ARGC.bits, codes "optional_argc")
    ∷ (has flags.bits method.IMPLICIT_JSCONTEXT.bits, codes "implicit_jscontext") ∷ [])

abbrev pub direction_word : ParamFlags → List ℕ
direction_word flags =
    marked PLUS
    ((has flags.bits param.IN.bits, codes "in")
    ∷ (has flags.bits param.OUT.bits, codes "out")
    ∷ (has flags.bits param.RETVAL.bits, codes "retval")
    ∷ (has flags.bits param.SHARED.bits, codes "shared")
    ∷ (has flags.bits param.DIPPER.bits, codes "dipper")
    ∷ (has flags.bits param.OPTIONAL.bits, codes "optional") ∷ [])

-- ---- kinds

abbrev pub kind_word : MemberKind → List ℕ
kind_word members.Plain = codes "method"
kind_word members.Get = codes "get"
kind_word members.Set = codes "set"

abbrev pub const_word : ConstKind → List ℕ
const_word kinds.I16 = codes "int16"
const_word kinds.U16 = codes "uint16"
const_word kinds.I32 = codes "int32"
const_word kinds.U32 = codes "uint32"

-- ---- types

-- the words of the tags 0 to 26
abbrev pub tag_words : List (List ℕ)
tag_words =
    codes "int8" ∷ codes "int16" ∷ codes "int32" ∷ codes "int64"
    ∷ codes "uint8" ∷ codes "uint16" ∷ codes "uint32" ∷ codes "uint64"
    ∷ codes "float" ∷ codes "double" ∷ codes "boolean" ∷ codes "char" ∷ codes "wchar"
    ∷ codes "void" ∷ codes "nsid" ∷ codes "domstring" ∷ codes "string" ∷ codes "wstring"
    ∷ codes "interface" ∷ codes "iid_is" ∷ codes "array" ∷ codes "sized_string"
    ∷ codes "sized_wstring" ∷ codes "utf8string" ∷ codes "cstring" ∷ codes "astring"
    ∷ codes "jsval" ∷ []

-- the word of a tag; there is no other tag
abbrev pub tag_word : ℕ → List ℕ
tag_word tag = slice_index_or tag_words tag []

abbrev pub number : ℕ → List ℕ
number n = decimal_text (pos n)

-- a word, and its arguments in parentheses
abbrev pub applied : List ℕ → List (List ℕ) → List ℕ
applied word arguments = word ++ codes "(" ++ join_with_byte COMMA arguments ++ codes ")"

-- an element's type, and a type; the arguments are numbers of interfaces and of parameters
abbrev pub elem_word : Elem → List ℕ
elem_word (elems.Plain tag) = tag_word tag
elem_word (elems.Iface iface) = applied (tag_word tags.INTERFACE) (number iface ∷ [])
elem_word (elems.IidIs param) = applied (tag_word tags.INTERFACE_IS) (number param ∷ [])

abbrev pub type_word : XType → List ℕ
type_word (types.Plain tag) = tag_word tag
type_word (types.Iface iface) = applied (tag_word tags.INTERFACE) (number iface ∷ [])
type_word (types.IidIs param) = applied (tag_word tags.INTERFACE_IS) (number param ∷ [])
type_word (types.Array size len elem) =
    applied (tag_word tags.ARRAY) (number size ∷ number len ∷ elem_word elem ∷ [])
type_word (types.SizedString size len) =
    applied (tag_word tags.SIZED_STRING) (number size ∷ number len ∷ [])
type_word (types.SizedWString size len) =
    applied (tag_word tags.SIZED_WSTRING) (number size ∷ number len ∷ [])

abbrev pub param_word : Param → List ℕ
param_word p = direction_word p.flags ++ COLON ∷ type_word p.ty
