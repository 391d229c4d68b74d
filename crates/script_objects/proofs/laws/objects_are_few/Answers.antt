use Rattle.script_objects.proofs.Kept.{objects-few}
use Rattle.script_objects.proofs.laws.objects_are_few.Goals as goal

pub returns : goal.returns
returns c = objects-few
