use Rattle.call_model.proofs.Conforming.{receives-canonical}
use Rattle.call_model.proofs.laws.a_conforming_frame_gives_canonical_values.Goals as goal

pub returns : goal.returns
returns c = receives-canonical
