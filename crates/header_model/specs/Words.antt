-- The words of a header: names, types and arguments.
use Rattle.std.specs.Prelude.{◌≡◌, ◌⊎◌, ◌<◌, ℕ, ◌==◌, Bool, true, not, ◌&&◌, ◌||◌, nat_lt, nat_le, List, [], ◌∷◌, ◌++◌, length, slice_index, codes}
use Rattle.std.specs.List.{list_all, flat_map}
use Rattle.std.specs.Char.{is_ascii_digit}
use Rattle.call_model.specs.declared.ctypes.CType.{CType}
use Rattle.call_model.specs.declared.ctypes.CType.TheVariants as c
use Rattle.line_words.specs.Words.{Word}
use Rattle.header_model.specs.declared.limits.TheConstants.{MAX_NAME}

-- a letter, a digit or `_`
abbrev pub is_name_byte : ℕ → Bool
is_name_byte b =
    (nat_le 97 b && nat_le b 122) || (nat_le 65 b && nat_le b 90) || is_ascii_digit b || (b == 95)

-- a name: 1 to 300 letters, digits and `_`, of which the first is no digit
abbrev pub is_name : Word → Bool
is_name w =
    nat_lt 0 (length w) && nat_le (length w) MAX_NAME && list_all is_name_byte w
    && not (is_ascii_digit (slice_index w 0))

abbrev pub IsName : Word → Type 0
IsName w = is_name w ≡ true

-- the word of C++ for a type of values, and `void*` for an address
abbrev pub type_word : CType → Word
type_word c.I8 = codes "int8_t"
type_word c.I16 = codes "int16_t"
type_word c.I32 = codes "int32_t"
type_word c.I64 = codes "int64_t"
type_word c.U8 = codes "uint8_t"
type_word c.U16 = codes "uint16_t"
type_word c.U32 = codes "uint32_t"
type_word c.U64 = codes "uint64_t"
type_word c.F32 = codes "float"
type_word c.F64 = codes "double"
type_word c.Bool = codes "bool"
type_word c.Char = codes "char"
type_word c.WChar = codes "char16_t"
type_word c.Ptr = codes "void*"

-- one `*` or more, or one `&`
abbrev pub AreMarks : Word → Type 0
AreMarks marks =
    ((0 < length marks) × (list_all (λ b. b == 42) marks ≡ true)) ⊎ (marks ≡ codes "&")

-- a pointer or a reference: a name and its marks
abbrev pub IsPointer : Word → Type 0
IsPointer w = (name : Word) × (marks : Word) × (w ≡ name ++ marks) × IsName name × AreMarks marks

-- the spelling of an argument's type: `const` may stand before a pointer or a reference alone
abbrev pub IsType : Word → CType → Type 0
IsType w c.Ptr =
    IsPointer w ⊎ ((pointer : Word) × (w ≡ codes "const " ++ pointer) × IsPointer pointer)
IsType w type = w ≡ type_word type

-- an argument: its type, a space and its name
abbrev pub IsArgument : Word → CType → Type 0
IsArgument w type =
    (text : Word) × (name : Word) × (w ≡ text ++ codes " " ++ name) × IsType text type
    × IsName name

-- the words, with a comma and a space between each two
abbrev pub joined : List Word → Word
joined [] = []
joined (w ∷ ws) = w ++ flat_map (λ v. codes ", " ++ v) ws
