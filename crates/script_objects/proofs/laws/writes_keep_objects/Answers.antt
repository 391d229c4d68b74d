use Rattle.script_objects.proofs.Kept.{writes-keep}
use Rattle.script_objects.proofs.laws.writes_keep_objects.Goals as goal

pub returns : goal.returns
returns c = writes-keep
