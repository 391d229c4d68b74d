use Rattle.std.proofs.Common.{◌≤◌, drop}
use Rattle.lib_model.specs.Table.{table_of}
use Rattle.script_meaning.specs.State.{State}
use Rattle.script_meaning.specs.Transcript.{run_from}
use Rattle.script_run.specs.Runners.{IsReady, StaysReady}
use Rattle.begun_calls.specs.Calling.{IsAt}
use Rattle.script_run.proofs.Runs.{Running}
use Rattle.script_run.proofs.running.run_lines.Given as goal

abbrev pub invariant-loop-line : goal.invariant-loop-line
invariant-loop-line g l =
    let table = table_of l.fn.runner.typelib.now in
    let conv = l.fn.runner.stage.machine.conv in record {
      running : (from : State) → IsAt table l.fn.runner.stage from
          → Running
          table
          conv
          (drop l.line-index l.fn.lines)
          (run_from table conv from l.fn.lines)
          l.runner.stage
          (g.O.Sink.written l.fn.out)
          (g.O.Sink.written l.out)
          (g.B.Bench.seen l.fn.bench)
          (g.B.Bench.seen l.bench);
      ready : IsReady l.runner;
      stays : StaysReady l.fn.runner l.runner;
      never_falls : g.O.Sink.faults l.fn.out ≤ g.O.Sink.faults l.out;
    }
