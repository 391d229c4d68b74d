use Rattle.call_replies.proofs.Planned.{rule-planned}
use Rattle.call_replies.proofs.laws.are_planned.Goals as goal

pub returns : goal.returns
returns c = rule-planned
