use Rattle.xp_base.proofs.Gains.{on_any_err}
use Rattle.made_calls.proofs.Made.{saw-whole}
use Rattle.script_run.proofs.runner.Runner.step.Goals as goal

pub returns-in_err-append-clause-cut : goal.returns-in_err-append-clause-cut
returns-in_err-append-clause-cut g c = λ state at.
    on_any_err c.from_residual-in_err-append.result
    (saw-whole _ _ _ (c.in_ok-told.ensures.ran state at).saw)
