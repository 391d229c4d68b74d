use Rattle.suited_rules.proofs.Suited.{starts-suited, steps-keep-suited}
use Rattle.suited_rules.proofs.laws.lines_keep_rules_suited.Goals as goal

pub returns-clause-start : goal.returns-clause-start
returns-clause-start c = starts-suited

pub returns-clause-kept : goal.returns-clause-kept
returns-clause-kept c = steps-keep-suited
