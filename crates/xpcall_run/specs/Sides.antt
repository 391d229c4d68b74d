-- What a run's source, sinks and bench were and became; and what a command gives.
use Rattle.std.specs.Prelude.{◌≡◌, ℕ, List, [], Option}
use Rattle.xp_base.specs.Causes.{Rose}
use Rattle.xp_base.specs.Files.{Files}
use Rattle.xp_base.specs.Written.{Gained, GainedNothing, GainedPrefix}
use Rattle.machine_bench.specs.declared.sight.Sight.{Sight}
use Rattle.machine_bench.specs.Seen.{Saw, SawPrefix}

-- a source, which stays what it was but for its count of faults
pub record Reads : Type 0 where
  pub files : Option Files
  pub faults_before : ℕ
  pub faults_after : ℕ

-- a sink: its text, and its count of faults
pub record Side : Type 0 where
  pub before : Option (List ℕ)
  pub after : Option (List ℕ)
  pub faults_before : ℕ
  pub faults_after : ℕ

-- by what a source tells of itself, before and after
abbrev pub reads_of : {A : Type 0} → (files : A → Option Files) → (faults : A → ℕ)
    → (old new : A) → Reads
reads_of files faults old new =
    record { files = files old; faults_before = faults old; faults_after = faults new }

-- by what a sink tells of itself, before and after
abbrev pub side_of : {A : Type 0} → (written : A → Option (List ℕ)) → (faults : A → ℕ)
    → (old new : A) → Side
side_of written faults old new = record {
  before = written old;
  after = written new;
  faults_before = faults old;
  faults_after = faults new;
}

-- the source failed
abbrev pub HasUnread : Reads → Type 0
HasUnread reads = Rose reads.faults_before reads.faults_after

-- the sink failed
abbrev pub HasFailed : Side → Type 0
HasFailed side = Rose side.faults_before side.faults_after

-- what the sink gained: a text, a prefix of it, nothing

abbrev pub Got : Side → (text : List ℕ) → Type 0
Got side text = Gained side.before side.after text

abbrev pub GotPrefix : Side → (text : List ℕ) → Type 0
GotPrefix side text = GainedPrefix side.before side.after text

abbrev pub GotNothing : Side → Type 0
GotNothing side = GainedNothing side.before side.after

-- ---- the output and the bench

-- a bench: what it had seen
pub record Shown : Type 0 where
  pub before : Option (List Sight)
  pub after : Option (List Sight)

-- by what a bench tells of itself, before and after
abbrev pub shown_of : {A : Type 0} → (seen : A → Option (List Sight)) → (old new : A) → Shown
shown_of seen old new = record { before = seen old; after = seen new }

-- it was shown nothing: what it tells is as it was
abbrev pub IsUnmoved : Shown → Type 0
IsUnmoved bench = bench.after ≡ bench.before

-- where a command's text goes, and the bench of its calls
pub record Output : Type 0 where
  pub sink : Side
  pub bench : Shown

abbrev pub output_of : Side → Shown → Output
output_of sink bench = record { sink = sink; bench = bench }

-- what a command gives: a text, and what its calls show a bench
pub record Given : Type 0 where
  pub text : List ℕ
  pub sights : List Sight

-- a text, where nothing is called
abbrev pub text_alone : List ℕ → Given
text_alone text = record { text = text; sights = [] }

-- the output gained the text and the bench the sights; first ones of them; or the output nothing,
-- and what the bench tells is as it was

abbrev pub HasAll : Output → Given → Type 0
HasAll output given =
    Got output.sink given.text × Saw output.bench.before output.bench.after given.sights

abbrev pub HasSome : Output → Given → Type 0
HasSome output given =
    GotPrefix output.sink given.text
    × SawPrefix output.bench.before output.bench.after given.sights

abbrev pub HasNone : Output → Type 0
HasNone output = GotNothing output.sink × IsUnmoved output.bench
