use Rattle.call_replies.proofs.OwnCells.{has-own-cells}
use Rattle.call_replies.proofs.laws.finds_cells.Goals as goal

pub returns : goal.returns
returns c = has-own-cells
