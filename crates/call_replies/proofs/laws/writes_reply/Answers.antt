use Rattle.std.proofs.Common.{refl}
use Rattle.call_replies.specs.Reply.{result_of}
use Rattle.call_replies.specs.Writes.{after_writes}
use Rattle.call_replies.proofs.Replied.{is_reply-some}
use Rattle.call_replies.proofs.laws.writes_reply.Goals as goal

pub returns : goal.returns
returns c = λ m blocks laid held call rule takes cells writes are.
    is_reply-some m blocks held call rule writes (after_writes m writes) (result_of rule) laid cells takes are refl refl
