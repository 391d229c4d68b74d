use Rattle.script_objects.proofs.rules.Rules.put.Goals as goal

-- rules that agree at each object and slot are one function
pub returns-clause-ok : goal.returns-clause-ok
returns-clause-ok c = λ j o s. c.in_ok-insert.ensures.updates.0 (o, s) j
