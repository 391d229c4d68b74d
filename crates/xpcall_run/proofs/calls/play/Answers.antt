use Rattle.std.proofs.Common.{OnErr, subst}
use Rattle.lib_model.specs.Table.{table_of}
use Rattle.object_memory.specs.Memory.{MachineView}
use Rattle.xpcall_run.specs.CallWork.{calls_given}
use Rattle.xpcall_run.specs.Sides.{HasSome, output_of, shown_of, side_of}
use Rattle.xpcall_run.proofs.Firsts.{err_both}
use Rattle.xpcall_run.proofs.calls.play.Goals as goal

pub returns-clause-err : goal.returns-clause-err
returns-clause-err g c =
    let out = output_of (side_of g.O.Sink.written g.O.Sink.faults c.args.out.now c.run_script.new.out) (shown_of g.B.Bench.seen c.args.bench.now c.run_script.new.bench) in
    subst (λ (m : MachineView). OnErr c.run_script.result (HasSome out (calls_given (table_of c.args.lib.now) m.conv c.args.script.now.lines)))
    c.in_ok-machine.ensures.fresh
    (err_both _ _ c.run_script.result c.run_script.ensures.err c.run_script.ensures.saw_some)
