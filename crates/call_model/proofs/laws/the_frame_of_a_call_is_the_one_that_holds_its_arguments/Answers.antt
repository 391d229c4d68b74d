use Rattle.call_model.proofs.TheFrame.{is-the-frame}
use Rattle.call_model.proofs.laws.the_frame_of_a_call_is_the_one_that_holds_its_arguments.Goals as goal

pub returns : goal.returns
returns c = is-the-frame
