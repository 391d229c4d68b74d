-- The include closure: names are visited in order, depth first, and an included file comes before
-- its includer, each once. The first fault that is met takes the place of the list.
use Rattle.std.specs.Prelude.{◌≡◌, ◌+◌, ℕ, Bool, true, false, ◌&&◌, nat_le, List, [], ◌∷◌, ◌++◌, length, Option, Some, None, Result, Ok, Err, MatchResult}
use Rattle.xp_base.specs.Causes.{Rose}
use Rattle.xp_base.specs.Files.{Files, file_in}
use Rattle.xp_base.specs.declared.limits.TheConstants.{MAX_TEXT}
use Rattle.idl_grammar.specs.declared.tree.ClosedFile.{ClosedFile}
use Rattle.idl_grammar.specs.declared.tree.IdlFile.{IdlFile}
use Rattle.idl_grammar.specs.Texts.{Tree, NoToken, NoTree, Says}
use Rattle.include_closure.specs.declared.closure_error.ClosureError.{ClosureError}
use Rattle.include_closure.specs.declared.closure_error.ClosureError.TheVariants as error
use Rattle.include_closure.specs.declared.file_error.FileError.{FileError}
use Rattle.include_closure.specs.declared.file_error.FileError.TheVariants as file
use Rattle.include_closure.specs.declared.visited.TheConstants.{MAX_TOGETHER}
use Rattle.include_closure.specs.declared.visited.Visited.{Visited}
use Rattle.include_closure.specs.FileFaults.{named}
use Rattle.include_closure.specs.Names.{is_begun, includes}

-- a file of these bytes is short enough, alone and together with those before it
abbrev pub has_room : ℕ → List ℕ → Bool
has_room size bytes =
    nat_le (length bytes) MAX_TEXT && nat_le (size + length bytes) MAX_TOGETHER

-- the name is begun, and its file of these bytes is taken
abbrev pub begins : Visited → List ℕ → List ℕ → Visited
begins v name bytes =
    record v { begun = v.begun ++ name ∷ []; size = v.size + length bytes }

-- the file is added, all that it includes having been visited
abbrev pub closes : Visited → List ℕ → IdlFile → Visited
closes v name tree = record v { closed = v.closed ++ record { name = name; file = tree } ∷ [] }

-- the file of this name has these bytes, and they are short enough
pub record IsShort (told : Files) (size : ℕ) (name bytes : List ℕ) : Type 0 where
  pub there : file_in told name ≡ Some bytes
  pub room : has_room size bytes ≡ true

-- the name was not begun, and its file has these bytes and this tree
pub record Takes (told : Files) (v : Visited) (name bytes : List ℕ) (tree : IdlFile) : Type 0 where
  pub fresh : is_begun v.begun name ≡ false
  pub short : IsShort told v.size name bytes
  pub says : Says bytes (Tree tree)

-- The file of this name has this fault: it is absent, it is too long, it has no tokens, its tokens
-- have no tree. No file has two.
abbrev pub Faults : Files → ℕ → List ℕ → FileError → Type 0
Faults told size name file.Failed = ⊥
Faults told size name file.Missing = file_in told name ≡ None
Faults told size name file.TooLong =
    (bytes : List ℕ) × (file_in told name ≡ Some bytes) × (has_room size bytes ≡ false)
Faults told size name (file.Token line) =
    (bytes : List ℕ) × IsShort told size name bytes × Says bytes (NoToken line)
Faults told size name (file.Syntax line) =
    (bytes : List ℕ) × IsShort told size name bytes × Says bytes (NoTree line)
Faults told size name file.Memory = ⊥

-- what visits come to: all was visited; or a fault was met, and these names were begun, of which
-- the last has it
pub data Outcome : Type 0 where
  Whole : Visited → Outcome
  Stopped : List (List ℕ) → ClosureError → Outcome

-- The visits of names, one after the other. A name that was begun gives nothing. Otherwise it is
-- begun and its file is taken, the names that this includes are visited, and it is added last.
pub data Visits (told : Files) : List (List ℕ) → Visited → Outcome → Type 0 where
  done : (v : Visited) → Visits told [] v (Whole v)
  again : (name : List ℕ) (names : List (List ℕ)) (v : Visited) (o : Outcome)
      → is_begun v.begun name ≡ true → Visits told names v o → Visits told (name ∷ names) v o
  taken : (name : List ℕ) (names : List (List ℕ)) (v inner : Visited) (bytes : List ℕ)
      (tree : IdlFile) (o : Outcome) → Takes told v name bytes tree
      → Visits told (includes tree.items) (begins v name bytes) (Whole inner)
      → Visits told names (closes inner name tree) o → Visits told (name ∷ names) v o
  inside : (name : List ℕ) (names : List (List ℕ)) (v : Visited) (bytes : List ℕ)
      (tree : IdlFile) (begun : List (List ℕ)) (e : ClosureError) → Takes told v name bytes tree
      → Visits told (includes tree.items) (begins v name bytes) (Stopped begun e)
      → Visits told (name ∷ names) v (Stopped begun e)
  fault : (name : List ℕ) (names : List (List ℕ)) (v : Visited) (e : FileError)
      → is_begun v.begun name ≡ false → Faults told v.size name e
      → Visits told (name ∷ names) v (Stopped (v.begun ++ name ∷ []) (named name e))

-- nothing was visited
abbrev pub nothing : Visited
nothing = record { begun = []; size = 0; closed = [] }

-- the names begun, up to the first fault where there is one
abbrev pub begun_of : Outcome → List (List ℕ)
begun_of (Whole v) = v.begun
begun_of (Stopped begun e) = begun

-- the list is the include closure of the roots
abbrev pub IsClosure : Files → List (List ℕ) → List ClosedFile → Type 0
IsClosure told roots list =
    (v : Visited) × Visits told roots nothing (Whole v) × (v.closed ≡ list)

-- the visits begin this name, up to their first fault
abbrev pub BeginsName : Files → List (List ℕ) → Visited → List ℕ → Type 0
BeginsName told names v name =
    (o : Outcome) × Visits told names v o × (is_begun (begun_of o) name ≡ true)

-- The visits stop with this error: it is their first fault. A source's own fault comes at a name
-- that they begin, and of want of memory nothing is said.
abbrev pub StopsWith : Files → List (List ℕ) → Visited → ClosureError → Type 0
StopsWith told names v (error.SourceFault name) = BeginsName told names v name
StopsWith told names v error.Memory = Unit {0}
StopsWith told names v e = (begun : List (List ℕ)) × Visits told names v (Stopped begun e)

-- the closure of the roots begins this name, up to its first fault
abbrev pub IsVisited : Files → List (List ℕ) → List ℕ → Type 0
IsVisited told roots name = BeginsName told roots nothing name

-- the error is the first fault of the closure of the roots
abbrev pub IsFirstFault : Files → List (List ℕ) → ClosureError → Type 0
IsFirstFault told roots e = StopsWith told roots nothing e

-- the visits of roots come to something, and to one thing alone
pub record HasOneClosure (told : Files) (roots : List (List ℕ)) : Type 0 where
  pub some : (o : Outcome) × Visits told roots nothing o
  pub one : (o p : Outcome) → Visits told roots nothing o → Visits told roots nothing p → o ≡ p

-- the answer is free where the source failed, and where there was no memory
abbrev pub IsFree : ClosureError → Type 0
IsFree (error.SourceFault name) = Unit {0}
IsFree error.Memory = Unit {0}
IsFree e = ⊥

-- Where the roots have this closure, it is the answer, unless the source fails or there is no
-- memory.
abbrev pub IsGiven : Files → List (List ℕ) → Result (List ClosedFile) ClosureError → Type 0
IsGiven told roots answer =
    (list : List ClosedFile) → IsClosure told roots list
    → MatchResult answer (λ given. given ≡ list) IsFree

-- A closure answers `SourceFault` only where the source's count of faults rose; on every other
-- answer the count is as before.
abbrev pub ErrorCause : (before after : ℕ) → ClosureError → Type 0
ErrorCause before after (error.SourceFault name) = Rose before after
ErrorCause before after e = after ≡ before

abbrev pub ClosureCause : {T : Type 0} → (before after : ℕ) → Result T ClosureError → Type 0
ClosureCause before after (Ok _) = after ≡ before
ClosureCause before after (Err e) = ErrorCause before after e
