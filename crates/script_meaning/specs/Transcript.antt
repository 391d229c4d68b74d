-- What a whole script means: its transcript, the state at its end, and the sights that a bench has
-- of its calls. All follow from a table of prototypes and the lines of the script.
use Rattle.std.specs.Prelude.{ℕ, List, [], ◌∷◌, ◌++◌}
use Rattle.call_model.specs.declared.places.Conv.{Conv}
use Rattle.call_model.specs.declared.tables.Table.{Table}
use Rattle.call_scripts.specs.declared.script.Line.{Line}
use Rattle.machine_bench.specs.declared.sight.Sight.{Sight}
use Rattle.script_meaning.specs.State.{State, empty}
use Rattle.script_meaning.specs.Step.{Stepped, quiet, step}

-- a step, and then what follows from the state that it left
abbrev pub before : Stepped → (later : Stepped) → Stepped
before stepped later = record {
  state = later.state;
  text = stepped.text ++ later.text;
  sights = stepped.sights ++ later.sights;
}

-- the lines one after the other, from a state on
abbrev pub run_from : Table → Conv → State → List Line → Stepped
run_from table conv state [] = quiet state []
run_from table conv state (line ∷ lines) =
    before
    (step table conv state line)
    (run_from table conv (step table conv state line).state lines)

abbrev pub run : Table → Conv → List Line → Stepped
run table conv lines = run_from table conv empty lines

-- the transcript of the static calls of a table's prototypes under a convention
unfoldable pub static : Table → Conv → List Line → List ℕ
static table conv lines = (run table conv lines).text

-- the state after the last line
unfoldable pub end : Table → Conv → List Line → State
end table conv lines = (run table conv lines).state

-- the sights, in the order of the calls
unfoldable pub sights : Table → Conv → List Line → List Sight
sights table conv lines = (run table conv lines).sights
