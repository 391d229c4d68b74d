-- Works: what a command comes to, and which files it can ask for.
use Rattle.std.specs.Prelude.{◌≡◌, ◌⊎◌, ℕ, ◌<◌, ◌≤◌, List, [], length, Option, Some, None}
use Rattle.xp_base.specs.Files.{Files, file_in}
use Rattle.xpcall_run.specs.declared.failures.FileFault.TheVariants.{Missing, TooLong}
use Rattle.xpcall_run.specs.declared.failures.Refusal.{Refusal}
use Rattle.xpcall_run.specs.declared.failures.Refusal.TheVariants.{OfFile}
use Rattle.xpcall_run.specs.Sides.{Given}

-- what a work comes to where nothing fails: what it gives, or a refusal
pub data Outcome : Type 0 where
  Written : (given : Given) → Outcome
  Denied : (refusal : Refusal) → Outcome

-- A work, over files that may be told. Over told files it comes to one outcome. Over files that are
-- not told it can come to each outcome that some files would give, a file at a time.
pub record Work : Type 1 where
  pub comes : Option Files → Outcome → Type 0
  pub asks : Option Files → (name : List ℕ) → Type 0

-- the source can have this under the name: where it tells its files, it is what these have
abbrev pub Finds : Option Files → (name : List ℕ) → Option (List ℕ) → Type 0
Finds files name found = (told : Files) → files ≡ Some told → file_in told name ≡ found

-- ---- works that ask for no file

abbrev pub Settles : (Given → Type 0) → (Refusal → Type 0) → Outcome → Type 0
Settles writes refuses (Written given) = writes given
Settles writes refuses (Denied refusal) = refuses refusal

-- It gives something, or refuses.
abbrev pub settles : (writes : Given → Type 0) → (refuses : Refusal → Type 0) → Work
settles writes refuses = record {
  comes = λ files outcome. Settles writes refuses outcome;
  asks = λ files name. ⊥;
}

-- It comes to nothing.
abbrev pub nowhere : Work
nowhere = settles (λ given. ⊥) (λ refusal. ⊥)

-- what writes a text calls nothing, and shows nothing
abbrev pub Quietly : (List ℕ → Type 0) → Given → Type 0
Quietly writes given = writes given.text × (given.sights ≡ [])

-- ---- works that ask for a file first

-- The file of this name was found, and `next` goes on with its bytes; or it is absent, or longer
-- than the limit.
abbrev pub Takes : ℕ → (name : List ℕ) → (next : List ℕ → Outcome → Type 0)
    → (found : Option (List ℕ)) → Outcome → Type 0
Takes limit name next None outcome = outcome ≡ Denied (OfFile name Missing)
Takes limit name next (Some bytes) outcome =
    ((limit < length bytes) × (outcome ≡ Denied (OfFile name TooLong)))
    ⊎ ((length bytes ≤ limit) × next bytes outcome)

-- the outcome, once something is found under the name
pub record TakesFound (files : Option Files) (limit : ℕ) (name : List ℕ) (next : List ℕ → Work)
    (outcome : Outcome) : Type 0 where
  pub found : Option (List ℕ)
  pub finds : Finds files name found
  pub taken : Takes limit name (λ bytes o. (next bytes).comes files o) found outcome

-- the file is found, and what goes on with its bytes can ask for this one
pub record AsksThen (files : Option Files) (limit : ℕ) (name : List ℕ) (next : List ℕ → Work)
    (other : List ℕ) : Type 0 where
  pub bytes : List ℕ
  pub finds : Finds files name (Some bytes)
  pub within : length bytes ≤ limit
  pub then : (next bytes).asks files other

-- It asks for a file of at most so many bytes, and goes on with these.
abbrev pub takes : (limit : ℕ) → (name : List ℕ) → (next : List ℕ → Work) → Work
takes limit name next = record {
  comes = λ files outcome. TakesFound files limit name next outcome;
  asks = λ files other. (other ≡ name) ⊎ AsksThen files limit name next other;
}
