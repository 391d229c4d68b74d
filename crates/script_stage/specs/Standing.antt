-- What a stage stands for: a state of the script.
use Rattle.std.specs.Prelude.{◌≡◌, ℕ, List, [], ◌++◌, length, codes, option_map, Option, Result, Ok, Err}
use Rattle.std.specs.Str.{bytes_eq}
use Rattle.indexmap.specs.IndexMap.{get_by}
use Rattle.xp_base.specs.Digits.{hex_digits}
use Rattle.transcript_text.specs.Texts.{ended}
use Rattle.transcript_text.specs.declared.refusals.Refusal.{Refusal}
use Rattle.transcript_text.specs.declared.refusals.Refusal.TheVariants as refusal
use Rattle.call_replies.specs.Blocks.{Block, Held, Data, Object, Forwarder, HoldsBlocks}
use Rattle.script_meaning.specs.Lawful.{IsLawful}
use Rattle.script_meaning.specs.Refusing.{◌then◌, there_is}
use Rattle.script_meaning.specs.State.{Name, State, named}
use Rattle.script_meaning.specs.Step.{Stepped, data_in}
use Rattle.script_objects.specs.Known.{AreKnown}
use Rattle.script_objects.specs.Ruling.{known_rules}
use Rattle.script_stage.specs.declared.errors.StepError.{StepError}
use Rattle.script_stage.specs.declared.errors.StepError.TheVariants.{Refused, Memory}
use Rattle.script_stage.specs.declared.names.Names.{Names}
use Rattle.script_stage.specs.declared.placed.Kind.{Kind}
use Rattle.script_stage.specs.declared.placed.Kind.TheVariants as kinds
use Rattle.script_stage.specs.declared.placed.Placed.{Placed}
use Rattle.script_stage.specs.declared.placed.Span.{Span}
use Rattle.script_stage.specs.declared.stages.Stage.{Stage}

-- what a name stands for
abbrev pub known : {T : Type 0} → Names T → Name → Option T
known names name = get_by (λ k. bytes_eq name k.now) names.map

-- ---- blocks

abbrev pub kind_of : Held → Kind
kind_of (Data bytes) = kinds.Data (length bytes)
kind_of (Object number iface) = kinds.Object number iface
kind_of (Forwarder number iface target own) = kinds.Object number iface

-- what a stage keeps of a block
abbrev pub noted : Block → Placed
noted b = record { at = b.at; kind = kind_of b.held }

-- what it keeps of the block of a name
abbrev pub noted_as : State → Name → Option Placed
noted_as state name = option_map noted (named state name)

-- where the data of the block of a name stands; or why a line that asks for it is refused
abbrev pub data_named : State → Name → Result Span Refusal
data_named state name =
    there_is (named state name) refusal.NoName
    then λ b. there_is (data_in b.held) refusal.NotData
    then λ bytes. Ok (record { at = b.at; length = length bytes })

-- ---- stages

-- the machine holds the blocks, and no cell is pushed; the names of blocks and of variables stand
-- for what they do in the state; and its objects and its rules are those of the state
pub record Stands (stage : Stage) (state : State) : Type 0 where
  pub lawful : IsLawful stage.machine.conv state
  pub holds : HoldsBlocks stage.machine state.blocks
  pub cells : stage.machine.cells ≡ []
  pub blocks : known stage.blocks ≡ noted_as state
  pub variables : known stage.variables ≡ state.variables
  pub objects : AreKnown stage.machine.conv stage.objects state.blocks
  pub rules : known_rules stage.rules ≡ state.rules
  pub context : stage.context ≡ state.context

-- it stands for some state, as a stage that was made and then changed by its methods alone does
abbrev pub IsStanding : Stage → Type 0
IsStanding stage = (state : State) × Stands stage state

-- what a line asks for was done, it tells this, and the stage stands for the state that it leaves,
-- under the convention that it had
pub record IsDone {A : Type 0} (Tells : A → List ℕ → Type 0) (asked : Result Stepped Refusal)
    (old new : Stage) (value : A) : Type 0 where
  pub stepped : Stepped
  pub is : asked ≡ Ok stepped
  pub stands : Stands new stepped.state
  pub conv : new.machine.conv ≡ old.machine.conv
  pub tells : Tells value stepped.text
  pub quiet : stepped.sights ≡ []

-- a refusal is the one that is asked for, and the stage is as it was
abbrev pub Does : {A : Type 0} → (Tells : A → List ℕ → Type 0)
    → (asked : State → Result Stepped Refusal)
    → (old new : Stage) → Result A StepError → Type 0
Does Tells asked old new (Ok value) =
    (state : State) → Stands old state → IsDone Tells (asked state) old new value
Does Tells asked old new (Err (Refused e)) =
    (new ≡ old) × ((state : State) → Stands old state → asked state ≡ Err e)
Does Tells asked old new (Err Memory) = Unit {0}

-- ---- what is told

-- an address is told as that of a new block
abbrev pub TellsAddress : ℕ → List ℕ → Type 0
TellsAddress address text = text ≡ ended (codes "at " ++ hex_digits address)

-- a line is told as it is
abbrev pub TellsLine : (line text : List ℕ) → Type 0
TellsLine line text = text ≡ line

-- where there is nothing else to tell
abbrev pub TellsDone : Unit {0} → List ℕ → Type 0
TellsDone done text = text ≡ ended (codes "ok")
