use Rattle.std.proofs.Common.{◌^◌, ◌+◌, ◌*◌, ◌<◌, arith}
use Rattle.xp_base.proofs.Naturals.{all_digits_at, one_digit_more, next_fits}
use Rattle.std.proofs.Math.Nat.{pow-le-pow_right}
use Rattle.xp_base.proofs.numbers.natural.Goals as goal

pub returns-in_err-digit-clause-value : goal.returns-in_err-digit-clause-value
returns-in_err-digit-clause-value c =
    rw c.from_residual.ensures (λ digits. c.in_err-digit.ensures.value (rw c.from.ensures (all_digits_at _ _ _ digits.0.1 c.loop-byte-test.true)))

pub overflow_mul-value : goal.overflow_mul-value
overflow_mul-value c =
    let fits : c.loop-byte.value * c.args.radix + 0 < 2 ^ 128 = next_fits c.args.radix c.loop-byte.byte-index c.loop-byte.value 0 c.requires.most (omega arith) c.loop-byte.invariant.2 (omega arith) in
    rw c.from-in-loop-byte.ensures (omega arith)

pub overflow_add-value : goal.overflow_add-value
overflow_add-value c =
    let low : c.in_ok-digit.digit < c.args.radix = rw c.in_ok-digit.ensures.value.1 c.in_ok-digit.ensures.value.0 in
    let fits = next_fits c.args.radix c.loop-byte.byte-index c.loop-byte.value c.in_ok-digit.digit c.requires.most (omega arith) c.loop-byte.invariant.2 low in
    rw (c.from-in-loop-byte.ensures, c.from-in-loop-byte-2.ensures) (omega (arith, fits))

pub loop-byte-preserved : goal.loop-byte-preserved
loop-byte-preserved c =
    let low : c.in_ok-digit.digit < c.args.radix = rw c.in_ok-digit.ensures.value.1 c.in_ok-digit.ensures.value.0 in
    let so_far = c.loop-byte.invariant in
    rw (c.from-in-loop-byte.ensures, c.from-in-loop-byte-2.ensures)
    (one_digit_more c.args.radix c.loop-byte.value c.in_ok-digit.digit c.loop-byte.byte-index c.args.text.now c.loop-byte-test.true so_far.0 so_far.1 so_far.2 (rw c.from.ensures at c.in_ok-digit.ensures.value.1) low)

pub returns-clause-bound : goal.returns-clause-bound
returns-clause-bound c =
    let longer = pow-le-pow_right {n = c.args.radix} (omega arith) {i = c.loop-byte.byte-index} {j = c.args.longest} (omega arith) in
    omega (arith, longer)
