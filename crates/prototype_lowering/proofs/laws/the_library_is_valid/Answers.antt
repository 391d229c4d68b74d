use Rattle.prototype_lowering.proofs.Validity.{library_valid}
use Rattle.prototype_lowering.proofs.laws.the_library_is_valid.Goals as goal

pub returns : goal.returns
returns c = library_valid
