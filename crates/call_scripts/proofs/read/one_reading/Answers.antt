use Rattle.call_scripts.proofs.Laws.{one_line}
use Rattle.call_scripts.proofs.read.one_reading.Goals as goal

pub returns : goal.returns
returns c = one_line
