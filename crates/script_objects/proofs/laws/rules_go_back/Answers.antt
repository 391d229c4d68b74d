use Rattle.script_objects.proofs.Kept.{rules-back}
use Rattle.script_objects.proofs.laws.rules_go_back.Goals as goal

pub returns : goal.returns
returns c = rules-back
