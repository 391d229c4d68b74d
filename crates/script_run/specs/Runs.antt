-- What comes of a line: the stage, the text, and what a bench saw.
use Rattle.std.specs.Prelude.{◌≡◌, ℕ, List, Option, Result, Ok, Err}
use Rattle.call_model.specs.declared.tables.Table.{Table}
use Rattle.machine_bench.specs.declared.sight.Sight.{Sight}
use Rattle.machine_bench.specs.Seen.{Saw, SawNothing, SawPrefix}
use Rattle.script_meaning.specs.State.{State}
use Rattle.script_meaning.specs.Step.{Stepped, settled}
use Rattle.script_stage.specs.declared.errors.StepError.{StepError}
use Rattle.script_stage.specs.declared.errors.StepError.TheVariants.{Refused, Memory}
use Rattle.script_stage.specs.declared.stages.Stage.{Stage}
use Rattle.script_stage.specs.Standing.{Stands}
use Rattle.xp_base.specs.Written.{Gained, GainedPrefix}
use Rattle.transcript_text.specs.declared.refusals.Refusal.{Refusal}
use Rattle.begun_calls.specs.Calling.{IsAt}

-- what a bench had seen, and has
pub record Looks : Type 0 where
  pub before : Option (List Sight)
  pub after : Option (List Sight)

abbrev pub looks_of : {A : Type 0} → (seen : A → Option (List Sight)) → (old new : A) → Looks
looks_of seen old new = record { before = seen old; after = seen new }

-- the stage stands for the state that was left, this is what was written, and the bench saw all
pub record Ran (stage : Stage) (looks : Looks) (text : List ℕ) (stepped : Stepped) : Type 0 where
  pub stands : Stands stage stepped.state
  pub text_is : text ≡ stepped.text
  pub saw : Saw looks.before looks.after stepped.sights

-- it was refused for this: the stage stands for the same state, and the bench saw nothing
pub record IsRefused (old new : Stage) (looks : Looks) (state : State)
    (asked : Result Stepped Refusal) (refusal : Refusal) : Type 0 where
  pub is : asked ≡ Err refusal
  pub stands : Stands new state
  pub conv : new.machine.conv ≡ old.machine.conv
  pub saw : SawNothing looks.before looks.after

-- it did what was asked for, with this text
pub record Did (old new : Stage) (looks : Looks) (asked : Result Stepped Refusal) (text : List ℕ)
    : Type 0 where
  pub stepped : Stepped
  pub is : asked ≡ Ok stepped
  pub ran : Ran new looks text stepped
  pub conv : new.machine.conv ≡ old.machine.conv

-- memory ran out on the way: the bench saw first ones of what it is shown
abbrev pub WasCut : Looks → State → (asked : Result Stepped Refusal) → Type 0
WasCut looks state asked =
    SawPrefix looks.before looks.after (settled state asked).sights

-- of a line
abbrev pub WasCutAt : Looks → Stepped → Type 0
WasCutAt looks stepped = SawPrefix looks.before looks.after stepped.sights

-- what comes of what is asked for in the state that a stage stands for
abbrev pub Comes : Table → (asked : State → Result Stepped Refusal) → (old new : Stage) → Looks
    → Result (List ℕ) StepError → Type 0
Comes table asked old new looks (Ok text) =
    (state : State) → IsAt table old state → Did old new looks (asked state) text
Comes table asked old new looks (Err (Refused refusal)) =
    (state : State) → IsAt table old state → IsRefused old new looks state (asked state) refusal
Comes table asked old new looks (Err Memory) =
    (state : State) → IsAt table old state → WasCut looks state (asked state)

-- ---- lines

-- lines were run to their end: the stage stands for the state that they leave, the sink gained
-- their text, and the bench saw their sights
pub record HasRun (stage : Stage) (looks : Looks) (written now : Option (List ℕ)) (run : Stepped)
    : Type 0 where
  pub stands : Stands stage run.state
  pub gained : Gained written now run.text
  pub saw : Saw looks.before looks.after run.sights

-- or they were cut short: the sink gained a first part of their text, and the bench saw first ones
-- of their sights
pub record HasRunSome (looks : Looks) (written now : Option (List ℕ)) (run : Stepped)
    : Type 0 where
  pub gained : GainedPrefix written now run.text
  pub saw : SawPrefix looks.before looks.after run.sights
