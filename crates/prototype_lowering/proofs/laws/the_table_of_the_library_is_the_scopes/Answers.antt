use Rattle.prototype_lowering.proofs.TableLaw.{table_law}
use Rattle.prototype_lowering.proofs.laws.the_table_of_the_library_is_the_scopes.Goals as goal

pub returns : goal.returns
returns c = table_law
