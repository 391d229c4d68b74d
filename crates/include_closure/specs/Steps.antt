-- What the steps of a closure do.
use Rattle.std.specs.Prelude.{◌≡◌, ◌≤◌, ◌+◌, ℕ, true, false, List, [], ◌∷◌, length, Option, Some, None, Result, Ok, Err}
use Rattle.xp_base.specs.Causes.{Rose}
use Rattle.xp_base.specs.Files.{Files}
use Rattle.idl_grammar.specs.declared.tree.ItemBody.{ItemBody}
use Rattle.idl_grammar.specs.declared.tree.ItemBody.TheVariants as item
use Rattle.idl_grammar.specs.declared.tree.IdlFile.{IdlFile}
use Rattle.idl_grammar.specs.Texts.{IsLawfulFile, NoToken, NoTree, Tree, Says}
use Rattle.include_closure.specs.declared.closure_error.ClosureError.{ClosureError}
use Rattle.include_closure.specs.declared.closure_error.ClosureError.TheVariants as error
use Rattle.include_closure.specs.declared.file_error.FileError.{FileError}
use Rattle.include_closure.specs.declared.file_error.FileError.TheVariants as file
use Rattle.include_closure.specs.declared.visited.Frame.{Frame}
use Rattle.include_closure.specs.declared.visited.TheConstants.{MAX_TOGETHER}
use Rattle.include_closure.specs.declared.visited.Visited.{Visited}
use Rattle.include_closure.specs.Closure.{Faults, IsShort, Takes, begins}
use Rattle.include_closure.specs.FileFaults.{named}
use Rattle.include_closure.specs.Names.{is_begun}

-- ---- one file

-- `Failed` comes only where the source's count of faults rose
abbrev pub FaultCause : (before after : ℕ) → FileError → Type 0
FaultCause before after file.Failed = Rose before after
FaultCause before after e = after ≡ before

abbrev pub FileCause : {T : Type 0} → (before after : ℕ) → Result T FileError → Type 0
FileCause before after (Ok _) = after ≡ before
FileCause before after (Err e) = FaultCause before after e

-- the file has this fault, or the source failed, or there was no memory
abbrev pub FaultsOr : Files → ℕ → List ℕ → FileError → Type 0
FaultsOr told size name file.Failed = Unit {0}
FaultsOr told size name file.Memory = Unit {0}
FaultsOr told size name e = Faults told size name e

-- the text has no tokens, or its tokens have no tree, or there was no memory
abbrev pub Blames : List ℕ → FileError → Type 0
Blames bytes (file.Token line) = Says bytes (NoToken line)
Blames bytes (file.Syntax line) = Says bytes (NoTree line)
Blames bytes file.Memory = Unit {0}
Blames bytes e = ⊥

-- the file has this tree, and so many bytes
abbrev pub HasShortTree : Files → ℕ → List ℕ → IdlFile × ℕ → Type 0
HasShortTree told size name r =
    (bytes : List ℕ) × IsShort told size name bytes × Says bytes (Tree r.0) × (r.1 ≡ length bytes)

-- whatever the files are: a lawful tree of no more items than bytes, for which there is room
pub record IsFitTree (size : ℕ) (r : IdlFile × ℕ) : Type 0 where
  pub few : length r.0.items ≤ r.1
  pub room : size + r.1 ≤ MAX_TOGETHER
  pub lawful : IsLawfulFile r.0

-- ---- a file that is opened, or was begun before

abbrev pub Opens : Files → Visited → List ℕ → Option Frame → Visited → Type 0
Opens told old name None new = (is_begun old.begun name ≡ true) × (new ≡ old)
Opens told old name (Some f) new =
    (bytes : List ℕ) × Takes told old name bytes f.file × (new ≡ begins old name bytes)
    × (f.name ≡ name) × (f.next ≡ 0)

-- the same, whatever the files are
abbrev pub IsOpened : Visited → Option Frame → Visited → Type 0
IsOpened old None new = (new.closed ≡ old.closed) × (new.size ≡ old.size)
IsOpened old (Some f) new =
    (new.closed ≡ old.closed) × (length f.file.items + old.size ≤ new.size) × (f.next ≡ 0)
    × IsLawfulFile f.file

-- the file of this name is refused: it has this fault, or the source failed, or there was no memory
abbrev pub Refuses : Files → Visited → List ℕ → ClosureError → Type 0
Refuses told v name error.Memory = Unit {0}
Refuses told v name e =
    (is_begun v.begun name ≡ false)
    × ((fault : FileError) × FaultsOr told v.size name fault × (e ≡ named name fault))

-- ---- an item that is followed

abbrev pub Follows : Files → Visited → ItemBody → Option Frame → Visited → Type 0
Follows told old (item.Include name) frame new = Opens told old name frame new
Follows told old body frame new = (frame ≡ None) × (new ≡ old)

abbrev pub RefusesItem : Files → Visited → ItemBody → ClosureError → Type 0
RefusesItem told v (item.Include name) e = Refuses told v name e
RefusesItem told v body e = ⊥

-- the frames with this one on top, where there is one
abbrev pub on_top : Option Frame → List Frame → List Frame
on_top None frames = frames
on_top (Some f) frames = f ∷ frames
