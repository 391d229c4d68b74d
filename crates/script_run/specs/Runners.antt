-- A runner: a stage, and the members of a typelib, over one library.
use Rattle.std.specs.Prelude.{◌≡◌}
use Rattle.call_model.specs.declared.tables.Table.{Table}
use Rattle.lib_model.specs.Table.{table_of}
use Rattle.lib_model.specs.Valid.{IsValid}
use Rattle.script_meaning.specs.State.{State}
use Rattle.script_run.specs.declared.runner.Runner.{Runner}
use Rattle.begun_calls.specs.Calling.{IsAt}

-- the table of a runner's library
abbrev pub table_in : Runner → Table
table_in runner = table_of runner.typelib.now

-- the members are those of the typelib, whose library is valid, and the stage is at a state
pub record IsReady (runner : Runner) : Type 0 where
  pub valid : IsValid runner.typelib.now
  pub members : runner.members.library ≡ runner.typelib.now
  pub at : (state : State) × IsAt (table_in runner) runner.stage state

-- what stays while lines are run
pub record StaysReady (old new : Runner) : Type 0 where
  pub typelib : new.typelib.now ≡ old.typelib.now
  pub members : new.members.library ≡ old.members.library
  pub conv : new.stage.machine.conv ≡ old.stage.machine.conv
