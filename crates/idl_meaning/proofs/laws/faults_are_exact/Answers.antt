use Rattle.idl_meaning.proofs.Membership.{exact}
use Rattle.idl_meaning.proofs.laws.faults_are_exact.Goals as goal

pub returns : goal.returns
returns c = exact
