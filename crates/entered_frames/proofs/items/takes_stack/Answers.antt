use Rattle.entered_frames.proofs.Entered.{takes-stack}
use Rattle.entered_frames.proofs.items.takes_stack.Goals as goal

pub returns : goal.returns
returns c =
    takes-stack c.args.conv c.args.bytes.now c.pushed_len.result c.pushed_len.ensures.len
    c.pushed_len.ensures.few
