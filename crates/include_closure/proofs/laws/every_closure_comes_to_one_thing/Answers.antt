use Rattle.include_closure.proofs.ClosureLaws.{one-closure}
use Rattle.include_closure.proofs.laws.every_closure_comes_to_one_thing.Goals as goal

pub returns : goal.returns
returns c = one-closure
