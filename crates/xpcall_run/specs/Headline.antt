-- What a run's status says, and what the sinks and the bench gained.
use Rattle.std.specs.Prelude.{◌≡◌, ◌≢◌, ◌⊎◌, ℕ, [], ◌∷◌, Contains, Option, Some, None}
use Rattle.xp_base.specs.Files.{Files}
use Rattle.xpcall_run.specs.declared.commands.Command.{Command}
use Rattle.xpcall_run.specs.declared.commands.Command.TheVariants.{Big, Call, Compile, Dump}
use Rattle.xpcall_run.specs.declared.failures.Failure.{Failure}
use Rattle.xpcall_run.specs.declared.failures.Failure.TheVariants.{CannotWrite}
use Rattle.xpcall_run.specs.declared.failures.Refusal.{Refusal}
use Rattle.xpcall_run.specs.Commands.{work_of}
use Rattle.xpcall_run.specs.Endings.{CanWrite, IsCause, IsKept}
use Rattle.xpcall_run.specs.FailureText.{failure_text, refusal_status, status_of}
use Rattle.xpcall_run.specs.Sides.{Given, HasAll, HasNone, HasSome, Output, Reads, Side, Got, GotPrefix, HasFailed, HasUnread}
use Rattle.xpcall_run.specs.Works.{Outcome, Work}

-- ---- premises

-- the source tells its files
abbrev pub IsTold : Option Files → Type 0
IsTold files = (told : Files) × (files ≡ Some told)

-- What the command comes to is determined: no command, and `big`, come to one thing over any
-- source.
abbrev pub IsKnown : Option Command → Option Files → Type 0
IsKnown None files = Unit {0}
IsKnown (Some (Compile roots)) files = IsTold files
IsKnown (Some (Dump typelib)) files = IsTold files
IsKnown (Some (Call conv typelib script)) files = IsTold files
IsKnown (Some (Big last)) files = Unit {0}

-- the words are no command, or one that asks for no file
abbrev pub AsksNothing : Option Command → Type 0
AsksNothing None = Unit {0}
AsksNothing (Some (Compile roots)) = ⊥
AsksNothing (Some (Dump typelib)) = ⊥
AsksNothing (Some (Call conv typelib script)) = ⊥
AsksNothing (Some (Big last)) = Unit {0}

-- the words are no command, or one that calls nothing
abbrev pub CallsNothing : Option Command → Type 0
CallsNothing (Some (Call conv typelib script)) = ⊥
CallsNothing _ = Unit {0}

-- what the command, or that it is none, comes to over these files
abbrev pub ComesTo : Option Command → Option Files → Outcome → Type 0
ComesTo command files outcome = (work_of command).comes files outcome

-- neither the source nor a sink failed
pub record NoneFailed (reads : Reads) (out : Output) (err : Side) : Type 0 where
  pub read : ¬ HasUnread reads
  pub written : ¬ HasFailed out.sink
  pub reported : ¬ HasFailed err

-- ---- statuses

-- the statuses of the program as far as they come
abbrev pub IsStatus : ℕ → Type 0
IsStatus status = Contains (0 ∷ 2 ∷ 3 ∷ 4 ∷ 5 ∷ 6 ∷ 7 ∷ 10 ∷ 11 ∷ 12 ∷ []) status

-- the status of a failure whose text was written
pub record IsPlain (status : ℕ) : Type 0 where
  pub not_done : status ≢ 0
  pub not_unwritten : status ≢ 4
  pub not_memory : status ≢ 5

-- ---- what a run does

-- The run gives this: on status 0 the output gained exactly the text, and the bench exactly the
-- sights; on 4 and 5 first parts of them, on 3 nothing; and no other status comes.
pub record Gives (status : ℕ) (out : Output) (given : Given) : Type 0 where
  pub statuses : (status ≡ 0) ⊎ (status ≡ 3) ⊎ (status ≡ 4) ⊎ (status ≡ 5)
  pub whole : status ≡ 0 → HasAll out given
  pub cut : (status ≡ 4) ⊎ (status ≡ 5) → HasSome out given
  pub nothing : status ≡ 3 → HasNone out

-- The status is that of the refusal; or the source failed before, or the report of the refusal did,
-- or memory ran out. The output gained nothing, and the bench is as it was.
pub record Denies (status : ℕ) (reads : Reads) (out : Output) (err : Side) (refusal : Refusal)
    : Type 0 where
  pub statuses : (status ≡ refusal_status refusal) ⊎ ((status ≡ 3) × HasUnread reads)
      ⊎ ((status ≡ 4) × HasFailed err) ⊎ (status ≡ 5)
  pub nothing : HasNone out

-- The words were no command. The output gained nothing, and the bench is as it was.
pub record IsUsage (status : ℕ) (out : Output) (err : Side) : Type 0 where
  pub statuses : (status ≡ 2) ⊎ ((status ≡ 4) × HasFailed err) ⊎ (status ≡ 5)
  pub nothing : HasNone out

-- A failure came first, from its cause, its text was written whole, and this is its status. The
-- output gained nothing, and the bench is as it was.
pub record IsReported (work : Work) (reads : Reads) (out : Output) (err : Side) (status : ℕ)
    : Type 0 where
  pub failure : Failure
  pub cause : IsCause work reads out failure
  pub named : status ≡ status_of failure
  pub told : Got err (failure_text failure)
  pub nothing : HasNone out

-- The report failed; or the output did, of a work that comes to something to give, and that was
-- reported.
abbrev pub IsUnwritten : Work → Reads → (out : Output) → (err : Side) → Type 0
IsUnwritten work reads out err =
    HasFailed err
    ⊎ (HasFailed out.sink × CanWrite work reads.files × Got err (failure_text CannotWrite))

-- A failure came first, from its cause, output and bench gained no more than they may, and a prefix
-- of the failure's text was written.
pub record IsCutShort (work : Work) (reads : Reads) (out : Output) (err : Side) : Type 0 where
  pub failure : Failure
  pub cause : IsCause work reads out failure
  pub kept : IsKept work reads.files out failure
  pub begun : GotPrefix err (failure_text failure)
