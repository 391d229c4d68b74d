use Rattle.big_laws.proofs.Lawful.{big_lawful}
use Rattle.big_laws.proofs.laws.big_is_lawful.Goals as goal

pub returns : goal.returns
returns c = big_lawful
