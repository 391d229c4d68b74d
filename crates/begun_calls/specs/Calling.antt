-- Calls that begin: the first frame stands, and the object is not yet entered.
use Rattle.std.specs.Prelude.{◌≡◌, ℤ, [], List, Result, Ok, Err}
use Rattle.call_model.specs.declared.places.Conv.{Conv}
use Rattle.call_model.specs.declared.tables.Table.{Table}
use Rattle.call_scripts.specs.declared.script.EnterItem.{EnterItem}
use Rattle.descriptor_reader.specs.Views.{MethodOf}
use Rattle.invoke_by_index.specs.declared.args.Arg.{Arg}
use Rattle.invoke_by_index.specs.Arguments.{arg_fault}
use Rattle.transcript_text.specs.declared.refusals.Refusal.{Refusal}
use Rattle.transcript_text.specs.declared.refusals.Refusal.TheVariants as refusal
use Rattle.script_meaning.specs.Calls.{Call, call_with, enter_with}
use Rattle.script_meaning.specs.Enters.{misformed}
use Rattle.script_meaning.specs.Members.{Member, as_object, object_of}
use Rattle.script_meaning.specs.Refusing.{◌then◌, no_fault, there_is}
use Rattle.script_meaning.specs.State.{Name, State, named, object_at}
use Rattle.script_meaning.specs.Step.{refusal_of, whole}
use Rattle.script_chains.specs.declared.begun.Begun.{Begun}
use Rattle.script_chains.specs.Answers.{HasBegun}
use Rattle.script_stage.specs.declared.errors.StepError.{StepError}
use Rattle.script_stage.specs.declared.errors.StepError.TheVariants.{Refused, Memory}
use Rattle.script_stage.specs.declared.stages.Stage.{Stage}
use Rattle.script_stage.specs.Standing.{Stands}
use Rattle.suited_rules.specs.Suiting.{AreSuited}

-- ---- what is asked for, once the member is known

-- a call with these arguments of the object at an address
abbrev pub call_begun : Table → Conv → State → (this : ℤ) → List Arg → Member → Result Call Refusal
call_begun table conv state this args m =
    no_fault (arg_fault conv m.proto args) refusal_of
    then λ _. object_of table m.iface (object_at state this)
    then λ object. Ok (call_with conv state.context m object args)

-- an enter of the object in a block, with the items of a frame
abbrev pub enter_begun : Table → Conv → State → Name → List EnterItem → Member
    → Result Call Refusal
enter_begun table conv state name items m =
    there_is (named state name) refusal.NoName
    then λ found. no_fault (misformed conv items) refusal.Form
    then λ _. object_of table m.iface (as_object found)
    then λ object. whole conv (enter_with conv m object items)

-- ---- on a stage

-- the stage stands for the state, in which the rules suit the methods that they are for
pub record IsAt (table : Table) (stage : Stage) (state : State) : Type 0 where
  pub stands : Stands stage state
  pub suited : AreSuited table state

-- the stage without the cells that a call pushed
abbrev pub without_cells : Stage → Stage
without_cells stage = record stage { machine = record stage.machine { cells = [] } }

-- the stage is at the state, but for the cells, and the call has begun on it
pub record IsCalling (table : Table) (stage : Stage) (state : State) (begun : Begun)
    (method : MethodOf) (call : Call) : Type 0 where
  pub at : IsAt table (without_cells stage) state
  pub has : HasBegun stage.machine stage.objects stage.rules begun method state call

-- the call that is asked for has begun, under the convention that the stage had
pub record HasCall (table : Table) (old new : Stage) (state : State) (begun : Begun)
    (method : MethodOf) (asked : Result Call Refusal) : Type 0 where
  pub call : Call
  pub is : asked ≡ Ok call
  pub calling : IsCalling table new state begun method call
  pub conv : new.machine.conv ≡ old.machine.conv

-- it has begun; or it is refused, and the stage is at the same state, under the same convention
abbrev pub Begins : Table → (asked : State → Result Call Refusal) → (old new : Stage) → MethodOf
    → Result Begun Refusal → Type 0
Begins table asked old new method (Ok begun) =
    (state : State) → IsAt table old state → HasCall table old new state begun method (asked state)
Begins table asked old new method (Err refusal) =
    (new.machine.conv ≡ old.machine.conv)
    × ((state : State) → IsAt table old state → (asked state ≡ Err refusal) × IsAt table new state)

-- the same, where there may be no memory to tell a refusal
abbrev pub MayBegin : Table → (asked : State → Result Call Refusal) → (old new : Stage) → MethodOf
    → Result Begun StepError → Type 0
MayBegin table asked old new method (Ok begun) = Begins table asked old new method (Ok begun)
MayBegin table asked old new method (Err (Refused e)) = Begins table asked old new method (Err e)
MayBegin table asked old new method (Err Memory) = Unit {0}
