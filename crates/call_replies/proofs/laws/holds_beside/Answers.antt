use Rattle.call_replies.proofs.OwnCells.{holds_blocks-beside}
use Rattle.call_replies.proofs.laws.holds_beside.Goals as goal

pub returns : goal.returns
returns c = holds_blocks-beside
