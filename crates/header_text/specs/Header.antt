-- The text of a header: C++ declarations of the interfaces of a scope, in the manner of XPCOM's own
-- headers.
use Rattle.std.specs.Prelude.{ℕ, Bool, not, ◌&&◌, List, [], ◌∷◌, ◌++◌, length, map, codes, Option, Some, None, if◌then◌else◌}
use Rattle.std.specs.List.{enumerate_from, flat_map}
use Rattle.std.specs.Char.{to_ascii_uppercase}
use Rattle.std.specs.Fmt.{decimal}
use Rattle.call_model.specs.declared.prototypes.MemberKind.{MemberKind}
use Rattle.call_model.specs.declared.prototypes.MemberKind.TheVariants as kind
use Rattle.call_model.specs.declared.prototypes.Status.{Status}
use Rattle.call_model.specs.declared.prototypes.Status.TheVariants.{Callable, Hidden, NotXpcom, Opaque}
use Rattle.line_words.specs.Words.{Word}
use Rattle.idl_meaning.specs.declared.scope.Scope.{Scope}
use Rattle.idl_meaning.specs.declared.scope.ScopeIface.{ScopeIface}
use Rattle.idl_meaning.specs.declared.scope.ScopeParam.{ScopeParam}
use Rattle.vtable_layout.specs.Slots.{Slot, inherited, own_of, parent_of}
use Rattle.prototype_lowering.specs.StaticTable.{back, front, is_method, status_of}
use Rattle.header_model.specs.Words.{joined}
use Rattle.header_text.specs.declared.arguments.Argument.{Argument}
use Rattle.header_text.specs.Types.{name_at, type_text}
use Rattle.header_text.specs.Order.{definitions_of}

-- ---- arguments

-- a written name; a value that is given without one is `retval`
abbrev pub given_name : Word → Word
given_name [] = codes "retval"
given_name (b ∷ name) = b ∷ name

-- the value by which an attribute is set is `value`
abbrev pub name_of : MemberKind → ScopeParam → Word
name_of kind.Plain p = given_name p.name
name_of kind.Get p = given_name p.name
name_of kind.Set p = codes "value"

abbrev pub argument_of : List ScopeIface → MemberKind → ScopeParam → Argument
argument_of ifaces of p = record { ty = type_text ifaces p; name = name_of of p }

-- the context of scripts, and the number of optional arguments that are given
abbrev pub context_if : Bool → List Argument
context_if added =
    if added then record { ty = codes "JSContext*"; name = codes "cx" } ∷ [] else []

abbrev pub count_if : Bool → List Argument
count_if added = if added then record { ty = codes "uint8_t"; name = codes "argc" } ∷ [] else []

-- the context stands first in a getter and a setter
abbrev pub first : Slot → List Argument
first s = context_if (s.context && not (is_method s.kind))

-- before the value of a method, or at its end, stand the context and the number
abbrev pub middle : Slot → List Argument
middle s = context_if (s.context && is_method s.kind) ++ count_if s.argc

-- in the order of the prototype
abbrev pub arguments_of : List ScopeIface → Slot → List Argument
arguments_of ifaces s =
    first s
    ++ (map (argument_of ifaces s.kind) (front s.params)
    ++ (middle s ++ map (argument_of ifaces s.kind) (back s.params)))

-- `a`, the position and the name
abbrev pub placed_name : ℕ → Word → Word
placed_name k name = codes "a" ++ decimal k ++ codes "_" ++ name

abbrev pub argument_text : ℕ × Argument → Word
argument_text a = a.1.ty ++ codes " " ++ placed_name a.0 a.1.name

unfoldable pub arguments_text : List Argument → Word
arguments_text arguments = joined (map argument_text (enumerate_from 0 arguments))

-- ---- slots

-- a name with its first letter in upper case
abbrev pub capital : Word → Word
capital [] = []
capital (b ∷ name) = to_ascii_uppercase b ∷ name

abbrev pub member_name : MemberKind → Word → Word
member_name kind.Plain name = capital name
member_name kind.Get name = codes "Get" ++ capital name
member_name kind.Set name = codes "Set" ++ capital name

abbrev pub method_line : List ScopeIface → Slot → Word
method_line ifaces s =
    codes "  virtual nsresult " ++ member_name s.kind s.name ++ codes "("
    ++ arguments_text (arguments_of ifaces s) ++ codes ") = 0;"

abbrev pub reserved_line : ℕ → Word
reserved_line number = codes "  virtual void xpcall_reserved_" ++ decimal number ++ codes "() = 0;"

-- what is callable is declared; what is not keeps its slot
abbrev pub line_by : Status → List ScopeIface → ℕ × Slot → Word
line_by Callable ifaces s = method_line ifaces s.1
line_by Hidden ifaces s = reserved_line s.0
line_by NotXpcom ifaces s = reserved_line s.0
line_by Opaque ifaces s = reserved_line s.0

abbrev pub slot_line : List ScopeIface → ℕ × Slot → Word
slot_line ifaces s = line_by (status_of s.1) ifaces s

-- ---- classes

abbrev pub class_line : List ScopeIface → Word → (parent : Option ℕ) → Word
class_line ifaces name None = codes "class " ++ name ++ codes " {"
class_line ifaces name (Some parent) =
    codes "class " ++ name ++ codes " : public " ++ name_at ifaces parent ++ codes " {"

-- its own slots, numbered behind those of its parent
unfoldable pub class_lines : List ScopeIface → ℕ → List Word
class_lines ifaces k =
    class_line ifaces (name_at ifaces k) (parent_of ifaces k) ∷ codes " public:"
    ∷ (map (slot_line ifaces) (enumerate_from (length (inherited ifaces k)) (own_of ifaces k))
    ++ codes "};" ∷ [])

abbrev pub forward_line : ScopeIface → Word
forward_line i = codes "class " ++ i.name ++ codes ";"

-- ---- the header

-- each interface in order of first mention, and then each that is defined in order of definition
abbrev pub header_lines : Scope → List Word
header_lines s =
    map forward_line s.ifaces ++ flat_map (class_lines s.ifaces) (definitions_of s.ifaces)

-- a line, ended by LF
abbrev pub ended : Word → Word
ended line = line ++ 10 ∷ []

unfoldable pub header_text : Scope → List ℕ
header_text s = flat_map ended (header_lines s)
