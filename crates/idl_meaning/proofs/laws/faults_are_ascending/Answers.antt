use Rattle.idl_meaning.proofs.Sorted.{faults-ascending}
use Rattle.idl_meaning.proofs.laws.faults_are_ascending.Goals as goal

pub returns : goal.returns
returns c = faults-ascending
