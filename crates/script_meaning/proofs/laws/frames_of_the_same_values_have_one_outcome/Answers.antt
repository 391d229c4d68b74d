use Rattle.script_meaning.proofs.Alike.{enters-alike}
use Rattle.script_meaning.proofs.laws.frames_of_the_same_values_have_one_outcome.Goals as goal

pub returns : goal.returns
returns c = enters-alike
