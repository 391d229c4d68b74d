use Rattle.script_objects.proofs.Among.{objects-stand}
use Rattle.script_objects.proofs.laws.objects_stand.Goals as goal

pub returns : goal.returns
returns c = objects-stand
