-- Each clause follows from how the run ends.
use Rattle.xpcall_run.proofs.CommandLaws.{known_settled}
use Rattle.xpcall_run.specs.Commands.{asked, work_of}
use Rattle.xpcall_run.specs.Joined.{static_given, typelib_given}
use Rattle.xpcall_run.specs.Sides.{output_of, reads_of, shown_of, side_of}
use Rattle.xpcall_run.proofs.JoinedLaws.{call_known, call_written, compile_known, compile_written}
use Rattle.xpcall_run.proofs.RunLaws.{run_complete, run_cut_short, run_denies, run_done, run_gives, run_status}
use Rattle.xpcall_run.proofs.running.run.Goals as goal

pub returns-clause-gives : goal.returns-clause-gives
returns-clause-gives g c = λ given known comes.
    run_gives _ _ _ _ _ given c.work_and_report.ensures.ends (known_settled _ _ known) comes

pub returns-clause-compiles : goal.returns-clause-compiles
returns-clause-compiles g c = λ compile is.
    run_gives _ _ _ _ _ (typelib_given compile) c.work_and_report.ensures.ends
    (known_settled _ _ (compile_known compile _ _ is)) (compile_written compile _ _ is)

pub returns-clause-calls : goal.returns-clause-calls
returns-clause-calls g c = λ call is.
    run_gives _ _ _ _ _ (static_given call) c.work_and_report.ensures.ends
    (known_settled _ _ (call_known call _ _ is)) (call_written call _ _ is)

pub returns-clause-denies : goal.returns-clause-denies
returns-clause-denies g c = λ refusal known comes.
    run_denies _ _ _ _ _ refusal c.work_and_report.ensures.ends (known_settled _ _ known) comes

pub returns-clause-statuses : goal.returns-clause-statuses
returns-clause-statuses g c = run_status _ _ _ _ _ c.work_and_report.ensures.ends

pub returns-clause-cut_short : goal.returns-clause-cut_short
returns-clause-cut_short g c = run_cut_short _ _ _ _ _ c.work_and_report.ensures.ends

pub returns-clause-complete : goal.returns-clause-complete
returns-clause-complete g c = λ given known comes.
    run_complete _ _ _ _ _ given c.work_and_report.ensures.ends (known_settled _ _ known) comes

pub returns-clause-done : goal.returns-clause-done
returns-clause-done g c =
    run_done
    (work_of (asked c.args.words.now))
    (reads_of g.S.Source.files g.S.Source.faults c.args.files.now c.work_and_report.new.files)
    (output_of (side_of g.O.Sink.written g.O.Sink.faults c.args.out.now c.work_and_report.new.out)
    (shown_of g.B.Bench.seen c.args.bench.now c.work_and_report.new.bench))
    (side_of g.E.Sink.written g.E.Sink.faults c.args.err.now c.work_and_report.new.err)
    c.work_and_report.result
    c.work_and_report.ensures.ends
