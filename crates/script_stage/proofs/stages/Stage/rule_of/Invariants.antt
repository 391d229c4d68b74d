use Rattle.std.proofs.Common.{◌≡◌, Some, take}
use Rattle.script_meaning.specs.Refusing.{each_of}
use Rattle.script_meaning.specs.State.{State}
use Rattle.script_meaning.specs.Words as words
use Rattle.script_stage.specs.Standing.{Stands}
use Rattle.script_stage.proofs.stages.Stage.rule_of.Given as goal

-- there is something for each word so far
abbrev pub invariant-loop-item : goal.invariant-loop-item
invariant-loop-item l =
    (state : State) → Stands l.self state
    → each_of (words.item_of state) (take l.item-index l.items) ≡ Some l.rule
