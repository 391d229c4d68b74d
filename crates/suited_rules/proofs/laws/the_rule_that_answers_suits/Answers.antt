use Rattle.suited_rules.proofs.Suits.{answers-suit}
use Rattle.suited_rules.proofs.laws.the_rule_that_answers_suits.Goals as goal

pub returns : goal.returns
returns c = answers-suit
