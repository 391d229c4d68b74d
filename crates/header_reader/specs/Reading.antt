-- What each part of a header reads as, if it has a reading, and what the reading of all comes to.
use Rattle.std.specs.Prelude.{◌≡◌, ◌≤◌, ◌<◌, ◌^◌, ℕ, ◌+◌, ◌==◌, Bool, false, ◌&&◌, List, [], ◌∷◌, ◌++◌, length, map, find, codes, Option, Some, None, Result, Ok, Err, if◌then◌else◌}
use Rattle.std.specs.List.{All, list_all, slice_split}
use Rattle.std.specs.Char.{is_ascii_digit}
use Rattle.std.specs.Option.{option_map_or}
use Rattle.std.specs.Str.{bytes_eq}
use Rattle.call_model.specs.declared.ctypes.CType.{CType}
use Rattle.call_model.specs.declared.ctypes.CType.TheVariants as c
use Rattle.line_words.specs.Words.{Word, ◌>>=◌, after, before, cut_at, each_of}
use Rattle.header_model.specs.declared.decls.Decl.{Decl}
use Rattle.header_model.specs.declared.lines.Line.{Line}
use Rattle.header_model.specs.declared.lines.Line.TheVariants.{Forward, Class, Public, Reserved, Method, Close}
use Rattle.header_model.specs.declared.states.State.{State}
use Rattle.header_model.specs.declared.states.State.TheVariants.{Between, Begun, Inside}
use Rattle.header_model.specs.Declares.{next_slot, step}
use Rattle.header_model.specs.Words.{is_name, type_word}
use Rattle.header_reader.specs.declared.error.HeaderReadError.{HeaderReadError}
use Rattle.header_reader.specs.declared.error.HeaderReadError.TheVariants.{At, Memory}

unfoldable pub name_of : Word → Option Word
name_of w = if is_name w then Some w else None

-- a name and its marks: `*` once or more, or one `&`
unfoldable pub is_pointer : Word → Bool
is_pointer w =
    option_map_or (λ parts. is_name parts.0 && list_all (λ b. b == 42) parts.1) (cut_at 42 w)
    (option_map_or (λ parts. is_name parts.0 && (length parts.1 == 0)) (cut_at 38 w) false)

-- the types that have a word of their own
abbrev pub value_types : List CType
value_types =
    c.I8 ∷ c.I16 ∷ c.I32 ∷ c.I64 ∷ c.U8 ∷ c.U16 ∷ c.U32 ∷ c.U64 ∷ c.F32 ∷ c.F64 ∷ c.Bool ∷ c.Char
    ∷ c.WChar ∷ []

unfoldable pub value_of : Word → Option CType
value_of w = find (λ type. bytes_eq w (type_word type)) value_types

unfoldable pub type_of : Word → Option CType
type_of w = if is_pointer w then Some c.Ptr else value_of w

-- what follows `const `: a pointer and a name
unfoldable pub const_of : Word → Option CType
const_of w =
    cut_at 32 w >>= λ parts.
    if is_pointer parts.0 && is_name parts.1 then Some c.Ptr else None

unfoldable pub argument_of : Word → Option CType
argument_of w =
    cut_at 32 w >>= λ parts.
    if bytes_eq parts.0 (codes "const") then const_of parts.1
    else if is_name parts.1 then type_of parts.0
    else None

-- an argument behind a comma
unfoldable pub later_of : Word → Option CType
later_of w = after (codes " ") w >>= argument_of

abbrev pub all_of : List Word → Option (List CType)
all_of [] = Some []
all_of (w ∷ ws) =
    argument_of w >>= λ type. each_of later_of ws >>= λ types. Some (type ∷ types)

unfoldable pub arguments_of : Word → Option (List CType)
arguments_of w = if length w == 0 then Some [] else all_of (slice_split (λ b. b == 44) w)

-- what stands between `class ` and ` {`
unfoldable pub class_of : Word → Option Line
class_of w =
    option_map_or
    (λ parts. after (codes ": public ") parts.1 >>= λ rest.
    name_of parts.0 >>= λ name. name_of rest >>= λ parent. Some (Class name (Some parent)))
    (cut_at 32 w)
    (name_of w >>= λ name. Some (Class name None))

-- what follows `class `
unfoldable pub head_of : Word → Option Line
head_of w =
    option_map_or
    (λ parts. if is_name parts.0 && (length parts.1 == 0) then Some Forward else None)
    (cut_at 59 w)
    (before (codes " {") w >>= class_of)

-- what follows `  virtual void xpcall_reserved_`
unfoldable pub reserved_of : Word → Option Line
reserved_of w =
    before (codes "() = 0;") w >>= λ number.
    if list_all is_ascii_digit number then Some (Reserved number) else None

-- what follows `  virtual nsresult `
unfoldable pub method_of : Word → Option Line
method_of w =
    cut_at 40 w >>= λ parts. name_of parts.0 >>= λ name.
    before (codes ") = 0;") parts.1 >>= λ args.
    arguments_of args >>= λ types. Some (Method name types)

unfoldable pub slot_of : Word → Option Line
slot_of w =
    option_map_or reserved_of (after (codes "  virtual void xpcall_reserved_") w)
    (after (codes "  virtual nsresult ") w >>= method_of)

-- what a line says, its line feed left out
unfoldable pub form_of : Word → Option Line
form_of w =
    if bytes_eq w (codes " public:") then Some Public
    else if bytes_eq w (codes "};") then Some Close
    else option_map_or head_of (after (codes "class ") w) (slot_of w)

unfoldable pub line_of : Word → Option Line
line_of w = before (10 ∷ []) w >>= form_of

-- where a header stands behind a line, its line feed left out
abbrev pub behind_of : State → Word → Option State
behind_of state w = form_of w >>= step state

-- what the lines come to where they end
abbrev pub finish : State → ℕ → Result (List Decl) ℕ
finish (Between decls) number = Ok decls
finish state number = Err number

-- the classes that lines declare, or the number of the first that does not fit, where the first of
-- them has this number
abbrev pub outcome : State → ℕ → List Word → Result (List Decl) ℕ
outcome state number [] = finish state number
outcome state number (w ∷ ws) =
    option_map_or (λ next. outcome next (number + 1) ws) (line_of w >>= step state) (Err number)

-- What was returned is what the reading comes to, unless memory ran out.
abbrev pub Comes : Result (List Decl) HeaderReadError → Result (List Decl) ℕ → Type 0
Comes (Ok decls) reading = reading ≡ Ok decls
Comes (Err (At line)) reading = reading ≡ Err line
Comes (Err Memory) reading = Unit {0}

-- the names of the classes that have begun, in order
abbrev pub names_of : State → List Word
names_of (Between decls) = map (λ decl. decl.name) decls
names_of (Begun decls decl) = map (λ decl. decl.name) decls ++ decl.name ∷ []
names_of (Inside decls decl) = map (λ decl. decl.name) decls ++ decl.name ∷ []

-- classes that can be numbered, with no more slots than a class may have
abbrev pub AreFit : List Decl → Type 0
AreFit decls = (length decls < 2 ^ 32) × All (λ decl. next_slot decl ≤ 250) decls

abbrev pub IsFit : State → Type 0
IsFit (Between decls) = AreFit decls
IsFit (Begun decls decl) = AreFit decls × (next_slot decl ≤ 250)
IsFit (Inside decls decl) = AreFit decls × (next_slot decl ≤ 250)
