use Rattle.lib_model.proofs.TableLaws.{short_lineage}
use Rattle.lib_model.proofs.laws.each_lineage_is_short.Goals as goal

pub returns : goal.returns
returns c = short_lineage
