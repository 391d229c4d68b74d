-- The work of `compile`: the typelib of the include closure of IDL files.
use Rattle.std.specs.Prelude.{◌≡◌, ◌⊎◌, ℕ, zero, suc, ◌<◌, ◌≤◌, false, List, [], length, slice_get, Option, Some, None, option_map, option_and_then}
use Rattle.std.specs.Option.{unwrap_or}
use Rattle.xp_base.specs.declared.limits.TheConstants.{MAX_TYPELIB}
use Rattle.idl_grammar.specs.declared.tree.ClosedFile.{ClosedFile}
use Rattle.idl_grammar.specs.declared.tree.IdlFile.{IdlFile}
use Rattle.idl_grammar.specs.declared.tree.Item.{Item}
use Rattle.idl_grammar.specs.declared.tree.ItemBody.{ItemBody}
use Rattle.idl_grammar.specs.declared.tree.ItemBody.TheVariants as item
use Rattle.idl_grammar.specs.declared.tree.Member.{Member}
use Rattle.idl_meaning.specs.declared.scope.ScopeIface.{ScopeIface}
use Rattle.idl_meaning.specs.declared.scope.ScopeMember.{ScopeMember}
use Rattle.idl_meaning.specs.Faults.{Fault, faults_of, first}
use Rattle.idl_meaning.specs.Scopes.{scope_of}
use Rattle.vtable_layout.specs.Layout.{IsFirstTooMany, has_too_many}
use Rattle.prototype_lowering.specs.Accepted.{IsAccepted, IsFaultless, ifaces_in, library_in}
use Rattle.prototype_lowering.specs.Limits.{HasManyInterfaces, HasManyItems, IsFirstWide, KeepsLimits}
use Rattle.prototype_lowering.specs.StaticTable.{static_table}
use Rattle.lib_model.specs.Denotes.{Denotes}
use Rattle.lib_model.specs.Emit.{emit}
use Rattle.lib_model.specs.Table.{table_of}
use Rattle.xpcall_run.specs.declared.failures.FileFault.TheVariants as fault
use Rattle.xpcall_run.specs.declared.failures.Refusal.{Refusal}
use Rattle.xpcall_run.specs.declared.failures.Refusal.TheVariants.{OfFile, OfFiles}
use Rattle.xpcall_run.specs.ClosureWork.{closes}
use Rattle.xpcall_run.specs.Works.{Work, Quietly, settles}

-- ---- what is written

-- the files are accepted, and the text is what is emitted for their library
pub record WritesLibrary (files : List ClosedFile) (text : List ℕ) : Type 0 where
  pub accepted : IsAccepted files
  pub emitted : text ≡ emit (library_in files)

-- The bytes of a typelib stand for what the files declare: they denote the library of it, and the
-- table of that library is the table of the interfaces and members as they are written.
pub record StandsFor (files : List ClosedFile) (bytes : List ℕ) : Type 0 where
  pub denotes : Denotes bytes (library_in files)
  pub table : table_of (library_in files) ≡ static_table (scope_of files)

-- ---- places

-- the name of a file, by its number
abbrev pub name_at : List ClosedFile → (file : ℕ) → List ℕ
name_at files file = unwrap_or (option_map (λ (f : ClosedFile). f.name) (slice_get files file)) []

-- the line of a member of what is declared, by its number from 1 on
abbrev pub member_line : ItemBody → ℕ → Option ℕ
member_line (item.Interface i) n = option_map (λ (m : Member). m.line) (slice_get i.members n)
member_line _ n = None

-- the line of a declaration, which is the member 0, or of a member
abbrev pub line_in : Item → (member : ℕ) → Option ℕ
line_in x zero = Some x.line
line_in x (suc n) = member_line x.body n

abbrev pub line_of_place : IdlFile → (decl member : ℕ) → Option ℕ
line_of_place tree decl member =
    option_and_then (λ (x : Item). line_in x member) (slice_get tree.items decl)

-- the line of the place that these numbers name
abbrev pub line_at : List ClosedFile → (file decl member : ℕ) → ℕ
line_at files file decl member =
    unwrap_or (option_and_then (λ (f : ClosedFile). line_of_place f.file decl member)
    (slice_get files file)) 0

-- the refusal of files for the fault of this code at this place
abbrev pub refused_at : List ClosedFile → (code file decl member : ℕ) → Refusal
refused_at files code file decl member =
    OfFile (name_at files file) (fault.Fault code (line_at files file decl member))

-- ---- what is refused

-- The first fault of the codes 1 to 14: least by file, declaration, member and code.
pub record RefusesMeaning (files : List ClosedFile) (refusal : Refusal) : Type 0 where
  pub least : Fault
  pub is_first : first (faults_of files) ≡ Some least
  pub named : refusal ≡ refused_at files least.code least.file least.decl least.member

-- Code 15: the first interface with more than 250 slots, or interfaces in its chain of parents, at
-- its definition.
pub record RefusesSlots (files : List ClosedFile) (refusal : Refusal) : Type 0 where
  pub number : ℕ
  pub is_first : IsFirstTooMany (ifaces_in files) number
  pub iface : ScopeIface
  pub there : slice_get (ifaces_in files) number ≡ Some iface
  pub named : refusal ≡ refused_at files 15 iface.file iface.decl 0

-- Code 16: the first member with more than 255 parameters, of the first interface that has one.
pub record RefusesWidth (files : List ClosedFile) (refusal : Refusal) : Type 0 where
  pub number : ℕ
  pub place : ℕ
  pub is_first : IsFirstWide (ifaces_in files) number place
  pub iface : ScopeIface
  pub there : slice_get (ifaces_in files) number ≡ Some iface
  pub member : ScopeMember
  pub within : slice_get iface.members place ≡ Some member
  pub named : refusal ≡ refused_at files 16 iface.file iface.decl member.member

-- Codes 17 and 18: more than 65,535 interfaces; else more than 1,000,000 items, or 65,535 constants
-- in an interface.
abbrev pub RefusesCounts : List ClosedFile → Refusal → Type 0
RefusesCounts files refusal =
    (HasManyInterfaces (ifaces_in files) × (refusal ≡ OfFiles 17))
    ⊎ (HasManyItems (scope_of files) × (refusal ≡ OfFiles 18))

-- Code 19: a typelib that is longer than one may be.
pub record RefusesLength (files : List ClosedFile) (refusal : Refusal) : Type 0 where
  pub roomy : KeepsLimits (scope_of files)
  pub long : MAX_TYPELIB < length (emit (library_in files))
  pub named : refusal ≡ OfFiles 19

-- no interface has too many slots or parents
abbrev pub HasFewSlots : List ClosedFile → Type 0
HasFewSlots files =
    (k : ℕ) → k < length (ifaces_in files) → has_too_many (ifaces_in files) k ≡ false

-- of files with few slots: the width comes first, then the counts, then the length
abbrev pub RefusesLibrary : List ClosedFile → Refusal → Type 0
RefusesLibrary files refusal =
    RefusesWidth files refusal ⊎ RefusesCounts files refusal ⊎ RefusesLength files refusal

-- of files without faults: the slots come first
abbrev pub RefusesShape : List ClosedFile → Refusal → Type 0
RefusesShape files refusal =
    RefusesSlots files refusal ⊎ (HasFewSlots files × RefusesLibrary files refusal)

-- the files are refused: for their first fault, or for the shape of what they declare
abbrev pub RefusesFaults : List ClosedFile → Refusal → Type 0
RefusesFaults files refusal =
    RefusesMeaning files refusal ⊎ (IsFaultless files × RefusesShape files refusal)

-- ---- the work

-- what is done with the files of the closure
abbrev pub library_work : List ClosedFile → Work
library_work files = settles (Quietly (WritesLibrary files)) (RefusesFaults files)

abbrev pub compile_work : (roots : List (List ℕ)) → Work
compile_work roots = closes roots library_work
