use Rattle.lib_model.proofs.Positions.{has_positions}
use Rattle.lib_model.proofs.laws.each_parameter_has_its_position.Goals as goal

pub returns : goal.returns
returns c = has_positions
