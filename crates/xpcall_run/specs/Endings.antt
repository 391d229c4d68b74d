-- How a work ends: it gives what it comes to, or a failure comes first, from its cause.
use Rattle.std.specs.Prelude.{◌≡◌, ◌⊎◌, ℕ, Option}
use Rattle.xp_base.specs.Files.{Files}
use Rattle.xpcall_run.specs.declared.failures.Failure.{Failure}
use Rattle.xpcall_run.specs.declared.failures.Failure.TheVariants.{CannotRead, CannotWrite, OutOfMemory, Refused}
use Rattle.xpcall_run.specs.declared.failures.Refusal.{Refusal}
use Rattle.xpcall_run.specs.FailureText.{failure_text, status_of}
use Rattle.xpcall_run.specs.Sides.{Given, HasAll, HasNone, HasSome, Output, Reads, Side, Got, GotNothing, GotPrefix, HasFailed, HasUnread}
use Rattle.xpcall_run.specs.Works.{Work, Written, Denied}

-- the work comes to something to give
abbrev pub CanWrite : Work → Option Files → Type 0
CanWrite work files = (given : Given) × work.comes files (Written given)

-- the work comes to this, and it was given
pub record HasWritten (work : Work) (files : Option Files) (out : Output) : Type 0 where
  pub given : Given
  pub comes : work.comes files (Written given)
  pub got : HasAll out given

-- the work comes to this, and first parts of it were given
pub record HasBegun (work : Work) (files : Option Files) (out : Output) : Type 0 where
  pub given : Given
  pub comes : work.comes files (Written given)
  pub got : HasSome out given

-- The cause of a failure that comes first: the work can ask for the file, and the source failed; it
-- comes to something to give, and the output failed; it comes to the refusal. Want of memory needs
-- no cause.
abbrev pub IsCause : Work → Reads → (out : Output) → Failure → Type 0
IsCause work reads out (CannotRead name) = work.asks reads.files name × HasUnread reads
IsCause work reads out CannotWrite = CanWrite work reads.files × HasFailed out.sink
IsCause work reads out OutOfMemory = Unit {0}
IsCause work reads out (Refused refusal) = work.comes reads.files (Denied refusal)

-- What output and bench gained before a failure: nothing, unless it came of the output or of
-- memory.
abbrev pub IsKept : Work → Option Files → (out : Output) → Failure → Type 0
IsKept work files out (CannotRead name) = HasNone out
IsKept work files out CannotWrite = HasBegun work files out
IsKept work files out OutOfMemory = HasNone out ⊎ HasBegun work files out
IsKept work files out (Refused refusal) = HasNone out

-- a failure came first, from its cause, and output and bench gained no more than they may
pub record IsFirst (work : Work) (reads : Reads) (out : Output) (failure : Failure) : Type 0 where
  pub cause : IsCause work reads out failure
  pub kept : IsKept work reads.files out failure

-- the cause of a failure that comes before anything is written
abbrev pub Stops : Work → Reads → Failure → Type 0
Stops work reads (CannotRead name) = work.asks reads.files name × HasUnread reads
Stops work reads CannotWrite = ⊥
Stops work reads OutOfMemory = Unit {0}
Stops work reads (Refused refusal) = work.comes reads.files (Denied refusal)

-- the failure is such a refusal, or want of memory
abbrev pub IsRefused : (part : Refusal → Type 0) → Failure → Type 0
IsRefused part (CannotRead name) = ⊥
IsRefused part CannotWrite = ⊥
IsRefused part OutOfMemory = Unit {0}
IsRefused part (Refused refusal) = part refusal

-- The failure's text was written whole and its status answered; or writing it failed, and the
-- status is 4; or there was no memory for it, and the status is 5. In the last two a prefix was
-- written.
abbrev pub Reports : Failure → (err : Side) → (status : ℕ) → Type 0
Reports failure err status =
    ((status ≡ status_of failure) × Got err (failure_text failure))
    ⊎ ((status ≡ 4) × HasFailed err × GotPrefix err (failure_text failure))
    ⊎ ((status ≡ 5) × GotPrefix err (failure_text failure))

-- all was given, and nothing reported
pub record HasDone (work : Work) (files : Option Files) (out : Output) (err : Side) (status : ℕ)
    : Type 0 where
  pub zero : status ≡ 0
  pub silent : GotNothing err
  pub written : HasWritten work files out

-- a failure came first, and was reported
pub record HasStopped (work : Work) (reads : Reads) (out : Output) (err : Side) (status : ℕ)
    : Type 0 where
  pub failure : Failure
  pub first : IsFirst work reads out failure
  pub report : Reports failure err status

-- how a run ends
abbrev pub Ends : Work → Reads → (out : Output) → (err : Side) → (status : ℕ) → Type 0
Ends work reads out err status =
    HasDone work reads.files out err status ⊎ HasStopped work reads out err status
