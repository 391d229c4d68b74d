use Rattle.std.proofs.Common.{refl, arith}
use Rattle.xp_base.proofs.Gains.{on_any_err}
use Rattle.lib_model.proofs.TableLaws.{short_lineage}
use Rattle.script_run.specs.Runners.{table_in}
use Rattle.script_run.proofs.Ready.{next_ready, stays_more}
use Rattle.script_run.proofs.Runs.{cuts_as, next_at, running_cut, running_next, running_unwritten, steps_as}
use Rattle.script_run.proofs.running.run_lines.Goals as goal

pub returns-in_err-text-clause-cut : goal.returns-in_err-text-clause-cut
returns-in_err-text-clause-cut g c = λ state at.
    let inv = c.loop-line.invariant in
    on_any_err c.from_residual.result
    (running_cut _ _ c.args.lines.now c.loop-line.line-index c.line-item.result _ _ _ _ _ _ _
    c.loop-line-test.true c.line-item.is (inv.running state at)
    (cuts_as _ _ _ _ _ _ _ c.line-item.result inv.stays.typelib inv.stays.conv c.in_err-text.ensures.cut))

pub returns-in_err-put_all-clause-cut : goal.returns-in_err-put_all-clause-cut
returns-in_err-put_all-clause-cut g c = λ state at.
    let inv = c.loop-line.invariant in
    let got = rw c.as_slice.ensures at c.in_err-put_all.ensures.err in
    on_any_err c.from_residual-in_err-put_all.result
    (running_unwritten _ _ c.args.lines.now c.loop-line.line-index c.line-item.result _ _ _ _ _ _ _ _ _ _
    c.loop-line-test.true c.line-item.is (inv.running state at)
    (steps_as _ _ _ _ _ _ _ _ _ c.line-item.result inv.stays.typelib inv.stays.conv c.in_ok-text.ensures.ran) got)

pub loop-line-preserved : goal.loop-line-preserved
loop-line-preserved g c =
    let inv = c.loop-line.invariant in
    let short = short_lineage c.args.runner.now.typelib.now c.requires.valid in
    let got = rw c.as_slice.ensures at c.in_ok-put_all.ensures.ok in
    let mine = inv.ready.at in
    let came = c.in_ok-text.ensures.ran mine.0 mine.1 in
    let next = next_at (table_in c.loop-line.runner) (short_lineage c.loop-line.runner.typelib.now inv.ready.valid) _ mine.0 c.line-item.result c.loop-line.runner.stage c.step.new.self.stage _ _ _ refl mine.1 came in record {
      running = λ from at.
          running_next _ short _ c.args.lines.now c.loop-line.line-index c.line-item.result _ _ _ _ _ _ _ _ _ _ inv.stays.conv
          c.loop-line-test.true c.line-item.is (inv.running from at)
          (steps_as _ _ _ _ _ _ _ _ _ c.line-item.result inv.stays.typelib inv.stays.conv c.in_ok-text.ensures.ran) got;
      ready = next_ready c.loop-line.runner c.step.new.self inv.ready c.in_ok-text.ensures.stays _ next;
      stays = stays_more c.args.runner.now c.loop-line.runner c.step.new.self inv.stays c.in_ok-text.ensures.stays;
      never_falls = omega (arith, inv.never_falls, c.put_all.ensures.never_falls);
    }
