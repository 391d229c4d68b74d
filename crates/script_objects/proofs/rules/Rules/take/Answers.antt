use Rattle.script_objects.proofs.rules.Rules.take.Goals as goal

pub returns-clause-left : goal.returns-clause-left
returns-clause-left c = λ j o s. c.swap_remove.ensures.updates.0 (o, s) j
