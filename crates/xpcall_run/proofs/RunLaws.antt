-- What follows from how a run ends.
use Rattle.std.proofs.Common.{◌≡◌, ◌⊎◌, ℕ, ◌<◌, List, inl, inr, refl, sym, ap, subst, ◌∙◌, arith}
use Rattle.xpcall_run.specs.declared.failures.Failure.{Failure}
use Rattle.xpcall_run.specs.declared.failures.Failure.TheVariants.{CannotRead, CannotWrite, OutOfMemory, Refused}
use Rattle.xpcall_run.specs.declared.failures.Refusal.{Refusal}
use Rattle.xpcall_run.specs.Endings.{Ends, HasBegun, HasWritten, IsFirst, IsKept}
use Rattle.xpcall_run.specs.FailureText.{refusal_status, status_of}
use Rattle.xpcall_run.specs.Headline.{Denies, Gives, IsCutShort, IsStatus, NoneFailed}
use Rattle.xpcall_run.specs.Sides.{Given, HasAll, HasNone, HasSome, Output, Reads, Side, GotNothing, HasFailed, HasUnread}
use Rattle.xpcall_run.specs.Works.{Work, Written, Denied}
use Rattle.xpcall_run.proofs.Ending.{LeavesStatus, leaves_known, leaves_positive, none_is_some, report_begun, report_leaves}
use Rattle.xpcall_run.proofs.Outcomes.{Settled}

-- ---- one outcome

same_given : (work : Work) (reads : Reads) (a b : Given) → Settled work reads.files
    → work.comes reads.files (Written a) → work.comes reads.files (Written b) → a ≡ b
same_given work reads a b one w v =
    let same : Written a ≡ Written b = one (Written a) (Written b) w v in cc

same_refusal : (work : Work) (reads : Reads) (r s : Refusal) → Settled work reads.files
    → work.comes reads.files (Denied r) → work.comes reads.files (Denied s) → r ≡ s
same_refusal work reads r s one w v =
    let same : Denied r ≡ Denied s = one (Denied r) (Denied s) w v in cc

not_both : (work : Work) (reads : Reads) (given : Given) (r : Refusal) → Settled work reads.files
    → work.comes reads.files (Written given) → work.comes reads.files (Denied r) → ⊥
not_both work reads given r one w v =
    let same : Written given ≡ Denied r = one (Written given) (Denied r) w v in cc

-- ---- what is given

abbrev IsLate : ℕ → Type 0
IsLate status = (status ≡ 4) ⊎ (status ≡ 5)

late_not : (status n : ℕ) → IsLate status → n < 4 → status ≡ n → ⊥
late_not status n (inl four) small is = omega (arith, four, is)
late_not status n (inr five) small is = omega (arith, five, is)

late_status : (status : ℕ) → IsLate status
    → (status ≡ 0) ⊎ (status ≡ 3) ⊎ (status ≡ 4) ⊎ (status ≡ 5)
late_status status (inl four) = inr (inr (inl four))
late_status status (inr five) = inr (inr (inr five))

gives_late : (status : ℕ) (out : Output) (given : Given) → IsLate status → HasSome out given
    → Gives status out given
gives_late status out given late got = record {
  statuses = late_status status late;
  whole = λ e. absurd (late_not status 0 late (omega arith) e);
  cut = λ _. got;
  nothing = λ e. absurd (late_not status 3 late (omega arith) e);
}

gives_done : (status : ℕ) (out : Output) (given : Given) → status ≡ 0 → HasAll out given
    → Gives status out given
gives_done status out given zero got = record {
  statuses = inl zero;
  whole = λ _. got;
  cut = λ late. absurd (late_not status 0 late (omega arith) zero);
  nothing = λ e. absurd (omega (arith, zero, e));
}

gives_unread : (status : ℕ) (out : Output) (err : Side) (given : Given) (name : List ℕ) → HasNone out
    → LeavesStatus (CannotRead name) err status → Gives status out given
gives_unread status out err given name none (inl is) = record {
  statuses = inr (inl is);
  whole = λ e. absurd (omega (arith, is, e));
  cut = λ late. absurd (late_not status 3 late (omega arith) is);
  nothing = λ _. none;
}
gives_unread status out err given name none (inr (inl cut)) =
    gives_late status out given (inl cut.0) (none_is_some out given none)
gives_unread status out err given name none (inr (inr five)) =
    gives_late status out given (inr five) (none_is_some out given none)

late_left : (failure : Failure) (err : Side) (status : ℕ) → IsLate (status_of failure)
    → LeavesStatus failure err status → IsLate status
late_left f err status (inl four) (inl is) = inl (is ∙ four)
late_left f err status (inr five) (inl is) = inr (is ∙ five)
late_left f err status why (inr (inl cut)) = inl cut.0
late_left f err status why (inr (inr five)) = inr five

begun_given : (work : Work) (reads : Reads) (out : Output) (given : Given) → Settled work reads.files
    → work.comes reads.files (Written given) → HasBegun work reads.files out → HasSome out given
begun_given work reads out given one w begun =
    subst (HasSome out) (same_given work reads begun.given given one begun.comes w) begun.got

kept_prefix : (work : Work) (reads : Reads) (out : Output) (given : Given) → Settled work reads.files
    → work.comes reads.files (Written given) → IsKept work reads.files out OutOfMemory
    → HasSome out given
kept_prefix work reads out given one w (inl none) = none_is_some out given none
kept_prefix work reads out given one w (inr begun) = begun_given work reads out given one w begun

gives_failed : (work : Work) (reads : Reads) (out : Output) (err : Side) (status : ℕ) (f : Failure)
    (given : Given) → Settled work reads.files → work.comes reads.files (Written given)
    → IsFirst work reads out f → LeavesStatus f err status → Gives status out given
gives_failed work reads out err status (CannotRead name) given one w first left =
    gives_unread status out err given name first.kept left
gives_failed work reads out err status CannotWrite given one w first left =
    gives_late status out given (late_left CannotWrite err status (inl refl) left)
    (begun_given work reads out given one w first.kept)
gives_failed work reads out err status OutOfMemory given one w first left =
    gives_late status out given (late_left OutOfMemory err status (inr refl) left)
    (kept_prefix work reads out given one w first.kept)
gives_failed work reads out err status (Refused r) given one w first left =
    absurd (not_both work reads given r one w first.cause)

pub run_gives : (work : Work) (reads : Reads) (out : Output) (err : Side) (status : ℕ) (given : Given)
    → Ends work reads out err status → Settled work reads.files
    → work.comes reads.files (Written given) → Gives status out given
run_gives work reads out err status given (inl done) one w =
    gives_done status out given done.zero
    (subst (HasAll out) (same_given work reads done.written.given given one done.written.comes w) done.written.got)
run_gives work reads out err status given (inr failed) one w =
    gives_failed work reads out err status failed.failure given one w failed.first
    (report_leaves failed.failure err status failed.report)

-- ---- the refusal is reported

denies_refused : (status : ℕ) (reads : Reads) (out : Output) (err : Side) (first refusal : Refusal)
    → first ≡ refusal → HasNone out → LeavesStatus (Refused first) err status
    → Denies status reads out err refusal
denies_refused status reads out err first refusal same none (inl is) =
    record { statuses = inl (is ∙ ap refusal_status same); nothing = none }
denies_refused status reads out err first refusal same none (inr (inl cut)) =
    record { statuses = inr (inr (inl cut)); nothing = none }
denies_refused status reads out err first refusal same none (inr (inr five)) =
    record { statuses = inr (inr (inr five)); nothing = none }

denies_unread : (status : ℕ) (reads : Reads) (out : Output) (err : Side) (name : List ℕ) (refusal : Refusal)
    → HasUnread reads → HasNone out → LeavesStatus (CannotRead name) err status
    → Denies status reads out err refusal
denies_unread status reads out err name refusal rose none (inl is) =
    record { statuses = inr (inl (is, rose)); nothing = none }
denies_unread status reads out err name refusal rose none (inr (inl cut)) =
    record { statuses = inr (inr (inl cut)); nothing = none }
denies_unread status reads out err name refusal rose none (inr (inr five)) =
    record { statuses = inr (inr (inr five)); nothing = none }

denies_memory : (work : Work) (status : ℕ) (reads : Reads) (out : Output) (err : Side) (refusal : Refusal)
    → Settled work reads.files → work.comes reads.files (Denied refusal)
    → IsKept work reads.files out OutOfMemory → LeavesStatus OutOfMemory err status
    → Denies status reads out err refusal
denies_memory work status reads out err refusal one r (inl none) (inl five) =
    record { statuses = inr (inr (inr five)); nothing = none }
denies_memory work status reads out err refusal one r (inl none) (inr (inl cut)) =
    record { statuses = inr (inr (inl cut)); nothing = none }
denies_memory work status reads out err refusal one r (inl none) (inr (inr five)) =
    record { statuses = inr (inr (inr five)); nothing = none }
denies_memory work status reads out err refusal one r (inr begun) left =
    absurd (not_both work reads begun.given refusal one begun.comes r)

denies_failed : (work : Work) (reads : Reads) (out : Output) (err : Side) (status : ℕ) (f : Failure)
    (refusal : Refusal) → Settled work reads.files → work.comes reads.files (Denied refusal)
    → IsFirst work reads out f → LeavesStatus f err status → Denies status reads out err refusal
denies_failed work reads out err status (CannotRead name) refusal one r first left =
    denies_unread status reads out err name refusal first.cause.1 first.kept left
denies_failed work reads out err status CannotWrite refusal one r first left =
    absurd (not_both work reads first.kept.given refusal one first.kept.comes r)
denies_failed work reads out err status OutOfMemory refusal one r first left =
    denies_memory work status reads out err refusal one r first.kept left
denies_failed work reads out err status (Refused q) refusal one r first left =
    denies_refused status reads out err q refusal (same_refusal work reads q refusal one first.cause r)
    first.kept left

pub run_denies : (work : Work) (reads : Reads) (out : Output) (err : Side) (status : ℕ) (refusal : Refusal)
    → Ends work reads out err status → Settled work reads.files
    → work.comes reads.files (Denied refusal) → Denies status reads out err refusal
run_denies work reads out err status refusal (inl done) one r =
    absurd (not_both work reads done.written.given refusal one done.written.comes r)
run_denies work reads out err status refusal (inr failed) one r =
    denies_failed work reads out err status failed.failure refusal one r failed.first
    (report_leaves failed.failure err status failed.report)

-- ---- the other clauses

pub run_status : (work : Work) (reads : Reads) (out : Output) (err : Side) (status : ℕ)
    → Ends work reads out err status → IsStatus status
run_status work reads out err status (inl done) = (0, omega arith, sym done.zero)
run_status work reads out err status (inr failed) =
    leaves_known failed.failure err status (report_leaves failed.failure err status failed.report)

run_zero : (failure : Failure) (err : Side) (status : ℕ) → LeavesStatus failure err status
    → status ≡ 0 → ⊥
run_zero f err status left zero =
    let positive : 0 < status = leaves_positive f err status left in omega (arith, positive, zero)

pub run_done : (work : Work) (reads : Reads) (out : Output) (err : Side) (status : ℕ)
    → Ends work reads out err status → status ≡ 0
    → GotNothing err × HasWritten work reads.files out
run_done work reads out err status (inl done) zero = (done.silent, done.written)
run_done work reads out err status (inr failed) zero =
    absurd (run_zero failed.failure err status
    (report_leaves failed.failure err status failed.report) zero)

pub run_cut_short : (work : Work) (reads : Reads) (out : Output) (err : Side) (status : ℕ)
    → Ends work reads out err status → IsLate status → IsCutShort work reads out err
run_cut_short work reads out err status (inl done) late =
    absurd (late_not status 0 late (omega arith) done.zero)
run_cut_short work reads out err status (inr failed) late = record {
  failure = failed.failure;
  cause = failed.first.cause;
  kept = failed.first.kept;
  begun = report_begun failed.failure err status failed.report;
}

complete_memory : (err : Side) (status : ℕ) → (HasFailed err → ⊥)
    → LeavesStatus OutOfMemory err status → status ≡ 5
complete_memory err status calm (inl five) = five
complete_memory err status calm (inr (inl cut)) = absurd (calm cut.1)
complete_memory err status calm (inr (inr five)) = five

complete_failed : (work : Work) (reads : Reads) (out : Output) (err : Side) (status : ℕ) (f : Failure)
    (given : Given) → Settled work reads.files → work.comes reads.files (Written given)
    → NoneFailed reads out err → IsFirst work reads out f → LeavesStatus f err status → status ≡ 5
complete_failed work reads out err status (CannotRead name) given one w none first left =
    absurd (none.read first.cause.1)
complete_failed work reads out err status CannotWrite given one w none first left =
    absurd (none.written first.cause.1)
complete_failed work reads out err status OutOfMemory given one w none first left =
    complete_memory err status none.reported left
complete_failed work reads out err status (Refused r) given one w none first left =
    absurd (not_both work reads given r one w first.cause)

pub run_complete : (work : Work) (reads : Reads) (out : Output) (err : Side) (status : ℕ) (given : Given)
    → Ends work reads out err status → Settled work reads.files
    → work.comes reads.files (Written given) → NoneFailed reads out err
    → (status ≡ 0) ⊎ (status ≡ 5)
run_complete work reads out err status given (inl done) one w none = inl done.zero
run_complete work reads out err status given (inr failed) one w none =
    inr (complete_failed work reads out err status failed.failure given one w none failed.first
    (report_leaves failed.failure err status failed.report))
