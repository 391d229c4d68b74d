-- Texts, prefixes and statuses at the end of a run.
use Rattle.std.proofs.Common.{◌≡◌, ◌⊎◌, ℕ, ◌<◌, List, length, inl, inr, refl, sym, subst, arith}
use Rattle.std.proofs.Math.Seq.{take-length}
use Rattle.xpcall_run.specs.declared.failures.FileFault.{FileFault}
use Rattle.xpcall_run.specs.declared.failures.FileFault.TheVariants.{Missing, TooLong, Token, Syntax, Fault, Typelib, Script}
use Rattle.xpcall_run.specs.declared.failures.Failure.{Failure}
use Rattle.xpcall_run.specs.declared.failures.Failure.TheVariants.{CannotRead, CannotWrite, OutOfMemory, Refused}
use Rattle.xpcall_run.specs.declared.failures.Refusal.{Refusal}
use Rattle.xpcall_run.specs.declared.failures.Refusal.TheVariants.{Usage, OfFile, OfFiles}
use Rattle.xpcall_run.specs.Endings.{Reports}
use Rattle.xpcall_run.specs.FailureText.{failure_text, fault_status, refusal_status, status_of}
use Rattle.xpcall_run.specs.Headline.{IsStatus}
use Rattle.xpcall_run.specs.Sides.{Given, HasNone, HasSome, Output, Side, Got, GotNothing, GotPrefix, HasFailed}
use Rattle.xpcall_run.proofs.Firsts.{kept}

-- ---- prefixes

pub nothing_is_prefix : (side : Side) (text : List ℕ) → GotNothing side → GotPrefix side text
nothing_is_prefix side text none = (0, omega arith, none)

pub whole_is_prefix : (side : Side) (text : List ℕ) → Got side text → GotPrefix side text
whole_is_prefix side text whole =
    (length text, omega arith, subst (Got side) (sym (take-length text)) whole)

pub none_is_some : (out : Output) (given : Given) → HasNone out → HasSome out given
none_is_some out given none = (
  nothing_is_prefix out.sink given.text none.0,
  (0, omega arith, kept out.bench.before out.bench.after none.1),
)

-- ---- statuses

fault_known : (fault : FileFault) → IsStatus (fault_status fault)
fault_known Missing = (5, omega arith, refl)
fault_known TooLong = (6, omega arith, refl)
fault_known (Token line) = (7, omega arith, refl)
fault_known (Syntax line) = (7, omega arith, refl)
fault_known (Fault code line) = (7, omega arith, refl)
fault_known (Typelib code place) = (8, omega arith, refl)
fault_known (Script line) = (9, omega arith, refl)

refusal_known : (refusal : Refusal) → IsStatus (refusal_status refusal)
refusal_known Usage = (1, omega arith, refl)
refusal_known (OfFile name fault) = fault_known fault
refusal_known (OfFiles code) = (7, omega arith, refl)

failure_known : (failure : Failure) → IsStatus (status_of failure)
failure_known (CannotRead name) = (2, omega arith, refl)
failure_known CannotWrite = (3, omega arith, refl)
failure_known OutOfMemory = (4, omega arith, refl)
failure_known (Refused refusal) = refusal_known refusal

-- no failure has the status 0
fault_positive : (fault : FileFault) → 0 < fault_status fault
fault_positive Missing = omega arith
fault_positive TooLong = omega arith
fault_positive (Token line) = omega arith
fault_positive (Syntax line) = omega arith
fault_positive (Fault code line) = omega arith
fault_positive (Typelib code place) = omega arith
fault_positive (Script line) = omega arith

refusal_positive : (refusal : Refusal) → 0 < refusal_status refusal
refusal_positive Usage = omega arith
refusal_positive (OfFile name fault) = fault_positive fault
refusal_positive (OfFiles code) = omega arith

failure_positive : (failure : Failure) → 0 < status_of failure
failure_positive (CannotRead name) = omega arith
failure_positive CannotWrite = omega arith
failure_positive OutOfMemory = omega arith
failure_positive (Refused refusal) = refusal_positive refusal

-- which status a report leaves
abbrev pub LeavesStatus : Failure → Side → ℕ → Type 0
LeavesStatus failure err status =
    (status ≡ status_of failure) ⊎ ((status ≡ 4) × HasFailed err) ⊎ (status ≡ 5)

pub report_leaves : (failure : Failure) (err : Side) (status : ℕ) → Reports failure err status
    → LeavesStatus failure err status
report_leaves f err status (inl whole) = inl whole.0
report_leaves f err status (inr (inl cut)) = inr (inl (cut.0, cut.1))
report_leaves f err status (inr (inr none)) = inr (inr none.0)

pub leaves_known : (failure : Failure) (err : Side) (status : ℕ) → LeavesStatus failure err status
    → IsStatus status
leaves_known f err status (inl is) = subst IsStatus (sym is) (failure_known f)
leaves_known f err status (inr (inl cut)) = subst IsStatus (sym cut.0) (failure_known CannotWrite)
leaves_known f err status (inr (inr five)) = subst IsStatus (sym five) (failure_known OutOfMemory)

-- a prefix of the failure's text is written, however the report ends
pub report_begun : (failure : Failure) (err : Side) (status : ℕ) → Reports failure err status
    → GotPrefix err (failure_text failure)
report_begun f err status (inl whole) = whole_is_prefix err (failure_text f) whole.1
report_begun f err status (inr (inl cut)) = cut.2
report_begun f err status (inr (inr none)) = none.1

pub leaves_positive : (failure : Failure) (err : Side) (status : ℕ)
    → LeavesStatus failure err status → 0 < status
leaves_positive f err status (inl is) = subst (λ n. 0 < n) (sym is) (failure_positive f)
leaves_positive f err status (inr (inl cut)) = omega (arith, cut.0)
leaves_positive f err status (inr (inr five)) = omega (arith, five)
