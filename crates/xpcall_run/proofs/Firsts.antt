-- Which failure comes first, by how far the work came.
use Rattle.std.proofs.Common.{◌≡◌, ℕ, List, [], ◌++◌, Option, Some, Result, Ok, Err, OnErr, inl, inr, refl, sym, ap, ◌∙◌, arith}
use Rattle.std.proofs.lemmas.List.{append-nil}
use Rattle.xp_base.specs.Causes.{Rose, SinkCause, run_fault_of}
use Rattle.xp_base.specs.declared.run_faults.RunFault.{RunFault}
use Rattle.xp_base.specs.declared.run_faults.RunFault.TheVariants as run
use Rattle.xp_base.specs.declared.sinks.SinkError.{SinkError}
use Rattle.xp_base.specs.declared.sinks.SinkError.TheVariants as sink
use Rattle.xpcall_run.specs.declared.failures.Failure.{Failure}
use Rattle.xpcall_run.specs.declared.failures.Failure.TheVariants.{CannotRead, CannotWrite, OutOfMemory, Refused}
use Rattle.xpcall_run.specs.Endings.{IsFirst, Stops}
use Rattle.xpcall_run.specs.FailureText.{output_failure}
use Rattle.xpcall_run.specs.Sides.{Given, HasAll, HasNone, HasSome, IsUnmoved, Output, Reads, Got, GotPrefix, HasFailed, text_alone}
use Rattle.xpcall_run.specs.Works.{Work, Written}

-- nothing was gained where nothing was put, and nothing seen where nothing was shown
pub kept : {X : Type 0} (before after : Option (List X)) → after ≡ before
    → (told : List X) → before ≡ Some told → after ≡ Some (told ++ [])
kept before after same told is = same ∙ is ∙ ap Some (sym (append-nil told))

-- neither the output nor the bench was moved
pub record IsStill (out : Output) : Type 0 where
  pub sink : out.sink.after ≡ out.sink.before
  pub bench : IsUnmoved out.bench

kept_none : (out : Output) → IsStill out → HasNone out
kept_none out still = (kept out.sink.before out.sink.after still.sink, still.bench)

-- where the work stopped before anything was written, its failure is the first
pub stopped_first : (work : Work) (reads : Reads) (out : Output) (f : Failure)
    → IsStill out → Stops work reads f → IsFirst work reads out f
stopped_first work reads out (CannotRead name) same h = record { cause = h; kept = kept_none out same }
stopped_first work reads out CannotWrite same h = absurd h
stopped_first work reads out OutOfMemory same h = record { cause = h; kept = inl (kept_none out same) }
stopped_first work reads out (Refused r) same h = record { cause = h; kept = kept_none out same }

-- so it is where the output was not written whole
pub unwritten_first : (work : Work) (reads : Reads) (out : Output) (given : Given)
    (fault : RunFault) → work.comes reads.files (Written given) → HasSome out given
    → (fault ≡ run.Sink → HasFailed out.sink) → IsFirst work reads out (output_failure fault)
unwritten_first work reads out given run.Sink comes got failed = record {
  cause = ((given, comes), failed refl);
  kept = record { given = given; comes = comes; got = got };
}
unwritten_first work reads out given run.Memory comes got failed =
    record { cause = tt; kept = inr (record { given = given; comes = comes; got = got }) }

-- a text alone was written in part, and nothing shown
pub some_alone : (out : Output) (text : List ℕ) → GotPrefix out.sink text → IsUnmoved out.bench
    → HasSome out (text_alone text)
some_alone out text got still =
    (got, (0, omega arith, kept out.bench.before out.bench.after still))

-- or whole
pub all_alone : (out : Output) (text : List ℕ) → Got out.sink text → IsUnmoved out.bench
    → HasAll out (text_alone text)
all_alone out text got still = (got, kept out.bench.before out.bench.after still)

-- a sink that failed says so by its count
pub failed_rose : (before after : ℕ) (fault : SinkError)
    → SinkCause {T = Unit {0}} before after (Err fault) → run_fault_of fault ≡ run.Sink → Rose before after
failed_rose before after sink.Failed cause is = cause
failed_rose before after sink.Memory cause is = absurd cc

-- what holds on a failure, and what holds besides
pub err_both : {T E : Type 0} (P Q : Type 0) (result : Result T E) → OnErr result P
    → OnErr result Q → OnErr result (P × Q)
err_both P Q (Ok v) one other = tt
err_both P Q (Err e) one other = (one, other)
