-- Works that begin with an include closure.
use Rattle.std.specs.Prelude.{◌≡◌, ◌⊎◌, ℕ, List, Option, Some}
use Rattle.xp_base.specs.Files.{Files}
use Rattle.idl_grammar.specs.declared.tree.ClosedFile.{ClosedFile}
use Rattle.include_closure.specs.declared.closure_error.ClosureError.{ClosureError}
use Rattle.include_closure.specs.declared.closure_error.ClosureError.TheVariants as error
use Rattle.include_closure.specs.Closure.{IsClosure, IsFirstFault, IsVisited}
use Rattle.xpcall_run.specs.declared.failures.FileFault.TheVariants as fault
use Rattle.xpcall_run.specs.declared.failures.Refusal.{Refusal}
use Rattle.xpcall_run.specs.declared.failures.Refusal.TheVariants.{OfFile}
use Rattle.xpcall_run.specs.Works.{Outcome, Denied, Work}

-- the files can be the closure of the roots: where the source tells its files, they are
abbrev pub CanClose : Option Files → (roots : List (List ℕ)) → List ClosedFile → Type 0
CanClose files roots list = (told : Files) → files ≡ Some told → IsClosure told roots list

-- the closure can stop with this: where the source tells its files, it does
abbrev pub CanStop : Option Files → (roots : List (List ℕ)) → ClosureError → Type 0
CanStop files roots e = (told : Files) → files ≡ Some told → IsFirstFault told roots e

-- the closure can begin this name: where the source tells its files, it does, up to its first fault
abbrev pub CanVisit : Option Files → (roots : List (List ℕ)) → (name : List ℕ) → Type 0
CanVisit files roots name = (told : Files) → files ≡ Some told → IsVisited told roots name

-- the fault of a closure, as a refusal of the file that has it
abbrev pub RefusedFor : ClosureError → Refusal → Type 0
RefusedFor (error.NoFile name) refusal = refusal ≡ OfFile name fault.Missing
RefusedFor (error.TooLong name) refusal = refusal ≡ OfFile name fault.TooLong
RefusedFor (error.Lex name line) refusal = refusal ≡ OfFile name (fault.Token line)
RefusedFor (error.Syntax name line) refusal = refusal ≡ OfFile name (fault.Syntax line)
RefusedFor (error.SourceFault name) refusal = ⊥
RefusedFor error.Memory refusal = ⊥

-- the files that the closure gives lead to the outcome
pub record Closes (files : Option Files) (roots : List (List ℕ)) (next : List ClosedFile → Work)
    (outcome : Outcome) : Type 0 where
  pub list : List ClosedFile
  pub closed : CanClose files roots list
  pub then : (next list).comes files outcome

-- the first fault of the closure is refused
pub record StopsClosing (files : Option Files) (roots : List (List ℕ)) (outcome : Outcome)
    : Type 0 where
  pub fault : ClosureError
  pub stops : CanStop files roots fault
  pub refusal : Refusal
  pub named : RefusedFor fault refusal
  pub denied : outcome ≡ Denied refusal

-- It asks for the files of the include closure of the roots, and goes on with these.
abbrev pub closes : (roots : List (List ℕ)) → (next : List ClosedFile → Work) → Work
closes roots next = record {
  comes = λ files outcome.
      Closes files roots next outcome ⊎ StopsClosing files roots outcome;
  asks = λ files name. CanVisit files roots name;
}
