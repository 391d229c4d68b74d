use Rattle.call_model.proofs.Lineages.{has-slots-of-parent}
use Rattle.call_model.proofs.laws.the_slots_are_the_parents_and_then_the_own.Goals as goal

pub returns : goal.returns
returns c = has-slots-of-parent
