-- A runner stays ready from line to line.
use Rattle.std.proofs.Common.{sym, subst, ◌∙◌}
use Rattle.lib_model.specs.declared.contents.Library.{Library}
use Rattle.lib_model.specs.Table.{table_of}
use Rattle.lib_model.specs.Valid.{IsValid}
use Rattle.script_meaning.specs.State.{State}
use Rattle.script_run.specs.declared.runner.Runner.{Runner}
use Rattle.script_run.specs.Runners.{IsReady, StaysReady, table_in}
use Rattle.begun_calls.specs.Calling.{IsAt}

pub stays_more : (a b c : Runner) → StaysReady a b → StaysReady b c → StaysReady a c
stays_more a b c first second = record {
  typelib = second.typelib ∙ first.typelib;
  members = second.members ∙ first.members;
  conv = second.conv ∙ first.conv;
}

pub next_ready : (a b : Runner) → IsReady a → StaysReady a b → (state : State)
    → IsAt (table_in a) b.stage state → IsReady b
next_ready a b ready stays state at = record {
  valid = subst IsValid (sym stays.typelib) ready.valid;
  members = stays.members ∙ ready.members ∙ sym stays.typelib;
  at = (state, subst (λ (l : Library). IsAt (table_of l) b.stage state) (sym stays.typelib) at);
}
