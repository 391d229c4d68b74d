-- The objects that lines ask for, as a stage knows them: by their numbers.
use Rattle.std.specs.Prelude.{◌≡◌, ℕ, is_some, option_and_then, Option, Some, Result, Ok, Err}
use Rattle.call_model.specs.declared.places.Conv.{Conv}
use Rattle.transcript_text.specs.declared.refusals.Refusal.{Refusal}
use Rattle.transcript_text.specs.declared.refusals.Refusal.TheVariants as refusal
use Rattle.call_replies.specs.Blocks.{Block}
use Rattle.script_meaning.specs.Members.{as_object}
use Rattle.script_meaning.specs.Refusing.{◌then◌, refuse, require, there_is}
use Rattle.script_meaning.specs.State.{Name, State, named, object_numbered}
use Rattle.script_meaning.specs.Step.{has_depth, joins}

-- the object that is asked for has this number
pub record IsNumberOf (state : State) (asked : Result Block Refusal) (number : ℕ) : Type 0 where
  pub object : Block
  pub is : asked ≡ Ok object
  pub numbered : object_numbered state.blocks number ≡ Some object

-- the number is that of the object that is asked for, and a refusal is the one that comes then
abbrev pub Finds : State → (asked : Result Block Refusal) → Result ℕ Refusal → Type 0
Finds state asked (Ok number) = IsNumberOf state asked number
Finds state asked (Err e) = asked ≡ Err e

-- the object in the block of a name
abbrev pub named_object : State → Name → Option Block
named_object state name = option_and_then as_object (named state name)

-- the object that a new forwarder hands its calls on to, whether or not the heap has room
unfoldable pub target_of :
    Conv → State → (name target : Name) → (own : Option Conv) → Result Block Refusal
target_of conv state name target own =
    refuse (is_some (named state name)) refusal.Taken
    then λ _. there_is (named state target) refusal.NoName
    then λ found. there_is (as_object found) refusal.NotAnObject
    then λ object. require (joins conv own) refusal.Word
    then λ _. require (has_depth conv state object) refusal.Depth
    then λ _. Ok object
