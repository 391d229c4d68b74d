use Rattle.script_meaning.proofs.Lawfulness.{ends-are-lawful, steps-keep-lawful}
use Rattle.script_meaning.proofs.laws.states_are_lawful.Goals as goal

pub returns : goal.returns
returns c = record { kept = steps-keep-lawful; at_the_end = ends-are-lawful }
