use Rattle.xpcall_run.proofs.CallLaws.{one_transcript}
use Rattle.xpcall_run.proofs.laws.one_library_has_one_transcript.Goals as goal

pub returns : goal.returns
returns c = λ conv lib one other script given given_other p q w v.
    one_transcript conv lib one other script given given_other p q w v
