-- How a work stops that asks for files.
use Rattle.std.proofs.Common.{◌≡◌, ℕ, ◌+◌, ◌<◌, ◌≤◌, List, length, take, Option, Some, None, Result, Ok, Err, IfErr, OnErr, inl, inr, refl, ap, subst, arith, length-take}
use Rattle.xp_base.specs.Causes.{Rose}
use Rattle.xp_base.specs.Files.{Files, fetched, file_in}
use Rattle.xp_base.specs.declared.sources.Fetched.TheVariants.{Found}
use Rattle.xpcall_run.specs.declared.failures.FileFault.TheVariants.{TooLong}
use Rattle.xpcall_run.specs.declared.failures.Failure.{Failure}
use Rattle.xpcall_run.specs.declared.failures.Failure.TheVariants.{CannotRead, CannotWrite, OutOfMemory, Refused}
use Rattle.xpcall_run.specs.declared.failures.Refusal.{Refusal}
use Rattle.xpcall_run.specs.declared.failures.Refusal.TheVariants.{OfFile}
use Rattle.xpcall_run.specs.Endings.{IsRefused, Stops}
use Rattle.xpcall_run.specs.Sides.{Given, Reads}
use Rattle.xpcall_run.specs.Works.{Work, Outcome, Written, Denied, Finds, Takes, TakesFound, nowhere, settles, takes}

-- ---- the fetch itself

no_outcome : (files : Option Files) (o : Outcome) → nowhere.comes files o → ⊥
no_outcome files (Written given) h = h
no_outcome files (Denied r) h = h

-- what a fetch found that is longer than its limit is of a file that is
pub record Longer (files : Option Files) (limit : ℕ) (name : List ℕ) : Type 0 where
  pub bytes : List ℕ
  pub finds : Finds files name (Some bytes)
  pub long : limit < length bytes

longer_told : (told : Files) (limit : ℕ) (name cut : List ℕ) (o : Option (List ℕ))
    → file_in told name ≡ o → Found cut ≡ fetched o limit → limit < length cut
    → Longer (Some told) limit name
longer_told told limit name cut None is e long = absurd cc
longer_told told limit name cut (Some full) is e long =
    let same : cut ≡ take (limit + 1) full = cc in
    record {
      bytes = full;
      finds = λ t h. (let so : told ≡ t = cc in subst (λ (f : Files). file_in f name ≡ Some full) so is);
      long = omega (arith, length-take (limit + 1) full, ap length same);
    }

longer_found : (files : Option Files) (limit : ℕ) (name cut : List ℕ)
    → ((told : Files) → files ≡ Some told → Found cut ≡ fetched (file_in told name) limit)
    → limit < length cut → Longer files limit name
longer_found None limit name cut content long =
    record { bytes = cut; finds = λ t h. absurd cc; long = long }
longer_found (Some told) limit name cut content long =
    longer_told told limit name cut (file_in told name) refl (content told refl) long

-- a file that is longer than its limit is refused
longer_stops : (reads : Reads) (limit : ℕ) (name : List ℕ) (next : List ℕ → Work) (f : Failure)
    → Longer reads.files limit name → IsRefused (λ r. r ≡ OfFile name TooLong) f
    → Stops (takes limit name next) reads f
longer_stops reads limit name next (CannotRead n) longer h = absurd h
longer_stops reads limit name next CannotWrite longer h = h
longer_stops reads limit name next OutOfMemory longer h = h
longer_stops reads limit name next (Refused r) longer h = record {
  found = Some longer.bytes;
  finds = longer.finds;
  taken = inl (longer.long, ap Denied h);
}

pub long_stops : (reads : Reads) (limit : ℕ) (name cut : List ℕ) (next : List ℕ → Work)
    (result : Result (List ℕ) Failure)
    → ((told : Files) → reads.files ≡ Some told → Found cut ≡ fetched (file_in told name) limit)
    → OnErr result (limit < length cut)
    → IfErr result (IsRefused (λ r. r ≡ OfFile name TooLong))
    → IfErr result (Stops (takes limit name next) reads)
long_stops reads limit name cut next (Ok given) content long h = tt
long_stops reads limit name cut next (Err f) content long h =
    longer_stops reads limit name next f (longer_found reads.files limit name cut content long) h

taken_first : (files : Option Files) (limit : ℕ) (name : List ℕ) (next : List ℕ → Work)
    (found : Option (List ℕ)) (o : Outcome)
    → Takes limit name (λ b p. nowhere.comes files p) found o
    → Takes limit name (λ b p. (next b).comes files p) found o
taken_first files limit name next None o h = h
taken_first files limit name next (Some b) o (inl long) = inl long
taken_first files limit name next (Some b) o (inr short) = absurd (no_outcome files o short.1)

asks_first : (files : Option Files) (limit : ℕ) (name : List ℕ) (next : List ℕ → Work)
    (other : List ℕ) → (takes limit name (λ b. nowhere)).asks files other
    → (takes limit name next).asks files other
asks_first files limit name next other (inl is) = inl is
asks_first files limit name next other (inr h) = absurd h.then

found_first : (files : Option Files) (limit : ℕ) (name : List ℕ) (next : List ℕ → Work) (o : Outcome)
    → TakesFound files limit name (λ b. nowhere) o → TakesFound files limit name next o
found_first files limit name next o h =
    record { found = h.found; finds = h.finds; taken = taken_first files limit name next h.found o h.taken }

-- what stops a fetch, stops a work that begins with it
pub first_stops : (reads : Reads) (limit : ℕ) (name : List ℕ) (next : List ℕ → Work) (f : Failure)
    → Stops (takes limit name (λ b. nowhere)) reads f → Stops (takes limit name next) reads f
first_stops reads limit name next (CannotRead n) h = (asks_first reads.files limit name next n h.0, h.1)
first_stops reads limit name next CannotWrite h = h
first_stops reads limit name next OutOfMemory h = h
first_stops reads limit name next (Refused r) h = found_first reads.files limit name next (Denied r) h

-- ---- behind a fetch

-- what stops the work that goes on with the bytes, stops the whole
pub takes_stops : (reads : Reads) (limit : ℕ) (name bytes : List ℕ) (next : List ℕ → Work)
    (f : Failure) → Finds reads.files name (Some bytes) → length bytes ≤ limit
    → Stops (next bytes) reads f → Stops (takes limit name next) reads f
takes_stops reads limit name bytes next (CannotRead n) finds within h =
    (inr (record { bytes = bytes; finds = finds; within = within; then = h.0 }), h.1)
takes_stops reads limit name bytes next CannotWrite finds within h = h
takes_stops reads limit name bytes next OutOfMemory finds within h = h
takes_stops reads limit name bytes next (Refused r) finds within h =
    record { found = Some bytes; finds = finds; taken = inr (within, h) }

-- a refusal of one part is a refusal of what has the part
pub refused_as : (part whole : Refusal → Type 0) (f : Failure)
    → ((r : Refusal) → part r → whole r) → IsRefused part f → IsRefused whole f
refused_as part whole (CannotRead n) leads h = h
refused_as part whole CannotWrite leads h = h
refused_as part whole OutOfMemory leads h = h
refused_as part whole (Refused r) leads h = leads r h

-- a refusal stops a work that settles
pub settled_stops : (reads : Reads) (writes : Given → Type 0) (refuses : Refusal → Type 0)
    (f : Failure) → IsRefused refuses f → Stops (settles writes refuses) reads f
settled_stops reads writes refuses (CannotRead n) h = absurd h
settled_stops reads writes refuses CannotWrite h = h
settled_stops reads writes refuses OutOfMemory h = h
settled_stops reads writes refuses (Refused r) h = h

-- ---- a source that is asked twice

rose_later : (first mid last : ℕ) → first ≤ mid → Rose mid last → Rose first last
rose_later first mid last le (inl lt) = inl (omega arith)
rose_later first mid last le (inr end) = inr end

-- What stops the later part of a work, counted from a later count of faults, stops it.
pub later_stops : (work : Work) (files same : Option Files) (first mid last : ℕ) (f : Failure)
    → same ≡ files → first ≤ mid
    → Stops work (record { files = same; faults_before = mid; faults_after = last }) f
    → Stops work (record { files = files; faults_before = first; faults_after = last }) f
later_stops work files same first mid last (CannotRead n) is le h =
    let P : Option Files → Type 0 = λ x. work.asks x n in
    (subst P is h.0, rose_later first mid last le h.1)
later_stops work files same first mid last CannotWrite is le h = h
later_stops work files same first mid last OutOfMemory is le h = h
later_stops work files same first mid last (Refused r) is le h =
    let P : Option Files → Type 0 = λ x. work.comes x (Denied r) in subst P is h
