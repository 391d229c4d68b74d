use Rattle.script_objects.proofs.Kept.{data-adds-none}
use Rattle.script_objects.proofs.laws.data_adds_no_object.Goals as goal

pub returns : goal.returns
returns c = data-adds-none
