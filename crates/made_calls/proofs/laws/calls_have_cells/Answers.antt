use Rattle.made_calls.proofs.Having.{calls-have}
use Rattle.made_calls.proofs.laws.calls_have_cells.Goals as goal

pub returns : goal.returns
returns c = calls-have
