use Rattle.std.proofs.Common.{arith, ◌∙◌}
use Rattle.xp_base.proofs.Gains.{gained_more, gained_no_more, length-rest, on_any_err}
use Rattle.xp_base.proofs.sinks.put_all.Goals as goal

pub returns-in_err-done-clause-err : goal.returns-in_err-done-clause-err
returns-in_err-done-clause-err g c =
    on_any_err c.from_residual.result (gained_no_more _ _ _ _ _ c.loop-done.invariant.within c.loop-done.invariant.gained c.in_err-done.ensures.err)

pub loop-done-preserved : goal.loop-done-preserved
loop-done-preserved g c = record {
  within = omega (arith, length-rest c.loop-done.done c.args.bytes.now, c.in_ok-done.ensures.within);
  gained = gained_more _ _ _ _ _ _ c.loop-done.invariant.gained c.in_ok-done.ensures.gained;
  calm = c.in_ok-done.ensures.cause ∙ c.loop-done.invariant.calm;
}
