-- What a header declares: what may follow what, line by line.
use Rattle.std.specs.Prelude.{◌≡◌, ℕ, ◌+◌, ◌==◌, Bool, nat_lt, nat_le, List, [], ◌∷◌, ◌++◌, length, position, slice_get, Option, Some, None, option_map, if◌then◌else◌}
use Rattle.std.specs.List.{list_any}
use Rattle.std.specs.Option.{option_map_or}
use Rattle.std.specs.Fmt.{decimal}
use Rattle.std.specs.Str.{bytes_eq}
use Rattle.call_model.specs.declared.ctypes.CType.{CType}
use Rattle.line_words.specs.Words.{Word, Each}
use Rattle.header_model.specs.declared.decls.Decl.{Decl}
use Rattle.header_model.specs.declared.decls.DeclSlot.{DeclSlot}
use Rattle.header_model.specs.declared.decls.DeclSlot.TheVariants as slots
use Rattle.header_model.specs.declared.limits.TheConstants.{MAX_ARGUMENTS, MAX_SLOTS}
use Rattle.header_model.specs.declared.lines.Line.{Line}
use Rattle.header_model.specs.declared.lines.Line.TheVariants as lines
use Rattle.header_model.specs.declared.states.State.{State}
use Rattle.header_model.specs.declared.states.State.TheVariants.{Between, Begun, Inside}
use Rattle.header_model.specs.Lines.{IsLine, lines_of}

-- a class of this name
abbrev pub has_name : Word → Decl → Bool
has_name name decl = bytes_eq decl.name name

-- the slot that the next own function of a class takes
abbrev pub next_slot : Decl → ℕ
next_slot decl = decl.first + length decl.slots

-- how many slots the class of this number has, its parents' counted
abbrev pub slots_at : List Decl → ℕ → ℕ
slots_at decls number = option_map_or next_slot (slice_get decls number) 0

-- a class without slots of its own, behind those of its parent
abbrev pub class_begun : Word → Option ℕ → ℕ → Decl
class_begun name parent first =
    record { name = name; parent = parent; first = first; slots = [] }

-- the class that begins: one that extends another extends an earlier one
abbrev pub decl_of : List Decl → Word → Option Word → Option Decl
decl_of decls name None = Some (class_begun name None 0)
decl_of decls name (Some parent) =
    option_map (λ number. class_begun name (Some number) (slots_at decls number))
    (position (has_name parent) decls)

-- forward lines stand before all classes
abbrev pub step_forward : List Decl → Option State
step_forward decls = if length decls == 0 then Some (Between decls) else None

-- no two classes have one name
abbrev pub step_class : List Decl → Word → Option Word → Option State
step_class decls name parent =
    if list_any (has_name name) decls then None
    else option_map (λ decl. Begun decls decl) (decl_of decls name parent)

-- a class has at most 250 slots, its parents' counted
abbrev pub with_slot : List Decl → Decl → DeclSlot → Option State
with_slot decls decl slot =
    if nat_lt (next_slot decl) MAX_SLOTS
    then Some (Inside decls (record decl { slots = decl.slots ++ slot ∷ [] }))
    else None

-- a reserved slot is named by its number
abbrev pub step_reserved : List Decl → Decl → Word → Option State
step_reserved decls decl number =
    if bytes_eq number (decimal (next_slot decl)) then with_slot decls decl slots.Reserved
    else None

-- a function has at most 257 arguments
abbrev pub step_method : List Decl → Decl → Word → List CType → Option State
step_method decls decl name types =
    if nat_le (length types) MAX_ARGUMENTS then with_slot decls decl (slots.Method name types)
    else None

-- where the header stands behind a line, if the line may stand there
abbrev pub step : State → Line → Option State
step (Between decls) lines.Forward = step_forward decls
step (Between decls) (lines.Class name parent) = step_class decls name parent
step (Begun decls decl) lines.Public = Some (Inside decls decl)
step (Inside decls decl) (lines.Reserved number) = step_reserved decls decl number
step (Inside decls decl) (lines.Method name types) = step_method decls decl name types
step (Inside decls decl) lines.Close = Some (Between (decls ++ decl ∷ []))
step state line = None

-- where it stands behind lines
abbrev pub steps : State → List Line → Option State
steps state [] = Some state
steps state (line ∷ more) = option_map_or (λ next. steps next more) (step state line) None

-- The text declares the classes: each of its lines has a form, and behind all of them these classes
-- have begun and ended.
abbrev pub Declares : (text : List ℕ) → List Decl → Type 0
Declares text decls =
    (said : List Line) × Each IsLine (lines_of text) said
    × (steps (Between []) said ≡ Some (Between decls))
