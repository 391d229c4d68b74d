use Rattle.std.proofs.Common.{sym, ◌∙◌}
use Rattle.idl_names.proofs.Digits.{overflowed}
use Rattle.idl_names.proofs.numbers.natural.Goals as goal

pub returns-then-value-ge-LIMIT : goal.returns-then-value-ge-LIMIT
returns-then-value-ge-LIMIT c =
    sym
    (c.loop-byte.invariant.same
    ∙ overflowed c.args.radix c.loop-byte.value c.args.digits.now c.loop-byte.byte-index c.loop-byte-test.true c.requires.least
    (rw (c.from.ensures, c.from-in-loop-byte.ensures, c.digit.ensures.value) at c.if-value-ge-LIMIT.true))
