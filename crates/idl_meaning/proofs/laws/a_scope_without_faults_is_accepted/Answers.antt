use Rattle.idl_meaning.proofs.WholeScope.{scope-accepted}
use Rattle.idl_meaning.proofs.laws.a_scope_without_faults_is_accepted.Goals as goal

pub returns : goal.returns
returns c = scope-accepted
