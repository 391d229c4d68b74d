use Rattle.std.proofs.Common.{◌-◌, arith, sym, ◌∙◌}
use Rattle.typelib_faults.specs.Places.{entries_of}
use Rattle.typelib_faults.proofs.ChainLaws.{meets_end, meets_here, meets_on, meets_over}
use Rattle.typelib_check.proofs.chains.reaches.Goals as goal

pub returns-then-at-eq0 : goal.returns-then-at-eq0
returns-then-at-eq0 c =
    sym (c.loop.invariant.0 ∙ meets_end (entries_of c.args.file.now.bytes.now) c.args.from (251 - c.loop.counter) c.loop.at c.if-at-eq0.true)

pub returns-then-at-from : goal.returns-then-at-from
returns-then-at-from c =
    sym (c.loop.invariant.0 ∙ meets_here (entries_of c.args.file.now.bytes.now) c.args.from 251 c.loop.counter c.loop.at (omega arith) c.if-at-eq0.false c.if-at-from.true)

pub loop-preserved : goal.loop-preserved
loop-preserved c =
    (c.loop.invariant.0 ∙ meets_on (entries_of c.args.file.now.bytes.now) c.args.from 251 c.loop.counter c.loop.at c.links-parent.result.0 (omega arith) c.if-at-eq0.false c.if-at-from.false c.links-parent.ensures.parent, c.links-parent.ensures.within)

pub returns : goal.returns
returns c =
    sym (c.loop.invariant.0 ∙ meets_over (entries_of c.args.file.now.bytes.now) c.args.from 251 c.loop.counter c.loop.at (omega arith))
