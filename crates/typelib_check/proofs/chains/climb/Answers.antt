use Rattle.std.proofs.Common.{arith, ◌∙◌}
use Rattle.typelib_faults.proofs.ChainLaws.{climbing_ended, climbing_on, climbing_over}
use Rattle.typelib_check.proofs.chains.climb.Goals as goal

pub returns-then-at-eq0-clause-top : goal.returns-then-at-eq0-clause-top
returns-then-at-eq0-clause-top c = (climbing_ended c.loop.invariant c.if-at-eq0.true).0

pub returns-then-at-eq0-clause-slots : goal.returns-then-at-eq0-clause-slots
returns-then-at-eq0-clause-slots c = (climbing_ended c.loop.invariant c.if-at-eq0.true).1

pub loop-preserved : goal.loop-preserved
loop-preserved c =
    climbing_on c.links-parent.result.0 c.from-slots.result c.loop.invariant (omega arith) c.if-at-eq0.false c.links-parent.ensures.parent (c.from-slots.ensures ∙ c.links-parent.ensures.slots) (omega arith) c.links-parent.ensures.within

pub returns-clause-top : goal.returns-clause-top
returns-clause-top c = (climbing_over c.loop.invariant (omega arith)).0

pub returns-clause-slots : goal.returns-clause-slots
returns-clause-slots c = (climbing_over c.loop.invariant (omega arith)).1
