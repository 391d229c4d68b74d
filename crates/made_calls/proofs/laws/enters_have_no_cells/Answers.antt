use Rattle.made_calls.proofs.Having.{enters-have}
use Rattle.made_calls.proofs.laws.enters_have_no_cells.Goals as goal

pub returns : goal.returns
returns c = enters-have
