-- The cells of the calls that lines ask for.
use Rattle.std.specs.Prelude.{◌≡◌, ℤ, List, Ok}
use Rattle.call_model.specs.declared.places.Conv.{Conv}
use Rattle.call_model.specs.declared.tables.Table.{Table}
use Rattle.call_scripts.specs.declared.script.EnterItem.{EnterItem}
use Rattle.invoke_by_index.specs.declared.args.Arg.{Arg}
use Rattle.script_meaning.specs.Calls.{Call}
use Rattle.script_meaning.specs.Members.{Member}
use Rattle.script_meaning.specs.State.{Name, State}
use Rattle.begun_calls.specs.Calling.{call_begun, enter_begun}
use Rattle.made_calls.specs.Making.{HasItsCells}

-- a call with arguments has its cells, and so has an enter
abbrev pub CallsHaveCells : Type 0
CallsHaveCells =
    (table : Table) (conv : Conv) (state : State) (this : ℤ) (args : List Arg) (m : Member)
    (call : Call) → call_begun table conv state this args m ≡ Ok call → HasItsCells call

abbrev pub EntersHaveNoCells : Type 0
EntersHaveNoCells =
    (table : Table) (conv : Conv) (state : State) (name : Name) (items : List EnterItem)
    (m : Member) (call : Call)
    → enter_begun table conv state name items m ≡ Ok call → HasItsCells call
