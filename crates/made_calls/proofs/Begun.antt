-- A call that was asked for and has begun has its cells, and so it can be made.
use Rattle.std.proofs.Common.{ℤ, List}
use Rattle.call_model.specs.declared.places.Conv.{Conv}
use Rattle.call_model.specs.declared.tables.Table.{Table}
use Rattle.call_scripts.specs.declared.script.EnterItem.{EnterItem}
use Rattle.descriptor_reader.specs.Views.{MethodOf}
use Rattle.invoke_by_index.specs.declared.args.Arg.{Arg}
use Rattle.script_meaning.specs.Members.{Member}
use Rattle.script_meaning.specs.State.{Name, State}
use Rattle.script_chains.specs.declared.begun.Begun.{Begun}
use Rattle.script_stage.specs.declared.stages.Stage.{Stage}
use Rattle.begun_calls.specs.Calling.{HasCall, call_begun, enter_begun}
use Rattle.made_calls.specs.Making.{CanBeMade}
use Rattle.made_calls.proofs.Having.{calls-have, enters-have}

module _ (table : Table) (conv : Conv) (old stage : Stage) (state : State) (begun : Begun)
    (method : MethodOf)
  where
    pub call-can : (this : ℤ) (args : List Arg) (m : Member)
        (has : HasCall table old stage state begun method (call_begun table conv state this args m))
        → CanBeMade table stage state begun method has.call
    call-can this args m has = record {
      calling = has.calling;
      cells = calls-have table conv state this args m has.call has.is;
    }

    pub enter-can : (name : Name) (items : List EnterItem) (m : Member)
        (has : HasCall table old stage state begun method (enter_begun table conv state name items m))
        → CanBeMade table stage state begun method has.call
    enter-can name items m has = record {
      calling = has.calling;
      cells = enters-have table conv state name items m has.call has.is;
    }
