use Rattle.script_objects.proofs.Kept.{replies-keep}
use Rattle.script_objects.proofs.laws.replies_keep_objects.Goals as goal

pub returns : goal.returns
returns c = replies-keep
