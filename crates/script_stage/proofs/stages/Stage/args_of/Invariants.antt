use Rattle.std.proofs.Common.{◌≡◌, Some, take}
use Rattle.script_meaning.specs.Refusing.{each_of}
use Rattle.script_meaning.specs.State.{State}
use Rattle.script_meaning.specs.Words as words
use Rattle.script_stage.specs.Standing.{Stands}
use Rattle.script_stage.proofs.stages.Stage.args_of.Given as goal

-- there is something for each word so far
abbrev pub invariant-loop-word : goal.invariant-loop-word
invariant-loop-word l =
    (state : State) → Stands l.self state
    → each_of (words.arg_of state) (take l.word-index l.args) ≡ Some l.found
