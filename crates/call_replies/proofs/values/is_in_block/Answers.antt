use Rattle.call_replies.proofs.Steps.{is_inside}
use Rattle.call_replies.proofs.values.is_in_block.Goals as goal

pub returns : goal.returns
returns c = λ blocks held. is_inside c.args.machine.now blocks held c.args.at c.args.n c.in_block.result c.in_block.ensures.inside
