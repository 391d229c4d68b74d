use Rattle.script_meaning.proofs.Ways.{chains-end}
use Rattle.script_meaning.proofs.laws.ways_through_forwarders_end.Goals as goal

pub returns : goal.returns
returns c = chains-end
