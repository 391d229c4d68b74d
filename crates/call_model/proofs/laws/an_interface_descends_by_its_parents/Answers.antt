use Rattle.call_model.proofs.Lineages.{descends-by-parents}
use Rattle.call_model.proofs.laws.an_interface_descends_by_its_parents.Goals as goal

pub returns : goal.returns
returns c = descends-by-parents
