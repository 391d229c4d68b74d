use Rattle.call_model.proofs.Conforming.{placed-conforms}
use Rattle.call_model.proofs.laws.the_frame_of_a_call_conforms.Goals as goal

pub returns : goal.returns
returns c = placed-conforms
