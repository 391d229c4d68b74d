-- The low bytes of a number make what is left of it by a power of 256; all of it where the power is no smaller.
use Rattle.std.proofs.Common.{◌≡◌, ◌<◌, ◌≤◌, ◌*◌, ◌%◌, ◌^◌, sym, ap, ◌∙◌, arith}
use Rattle.std.proofs.Math.Nat.{mod-eq_of_lt}
use Rattle.std.proofs.Math.Pow.{pow_mono}
use Rattle.xp_base.proofs.LittleEndian.{number_of-low_bytes}
use Rattle.object_memory.proofs.Bytes.{number_of-low_bytes-below}
use Rattle.object_memory.proofs.blocks.low_part.Goals as goal

pub returns-then-n-lt8-clause-value : goal.returns-then-n-lt8-clause-value
returns-then-n-lt8-clause-value c =
    let few : 8 * c.args.n ≤ 56 = omega (arith, c.if-n-lt8.true) in
    let small : 2 ^ (8 * c.args.n) ≤ 2 ^ 56 = pow_mono few in
    let fits : 1 * 2 ^ (8 * c.args.n) < 2 ^ 64 = omega (arith, small) in
    let power : 1 * 2 ^ (8 * c.args.n) % 2 ^ 64 ≡ 2 ^ (8 * c.args.n) = omega (arith, mod-eq_of_lt fits) in
    ap (λ k. c.args.v % k) power ∙ sym (number_of-low_bytes c.args.n c.args.v)

pub returns-else-n-lt8-clause-value : goal.returns-else-n-lt8-clause-value
returns-else-n-lt8-clause-value c =
    let many : 64 ≤ 8 * c.args.n = omega (arith, c.if-n-lt8.false) in
    let large : 2 ^ 64 ≤ 2 ^ (8 * c.args.n) = pow_mono many in
    let small : c.args.v < 2 ^ (8 * c.args.n) = omega (arith, c.ranges.v.fits, large) in
    sym (number_of-low_bytes c.args.n c.args.v ∙ mod-eq_of_lt small)

pub returns-then-n-lt8-clause-small : goal.returns-then-n-lt8-clause-small
returns-then-n-lt8-clause-small c = rw (returns-then-n-lt8-clause-value c) (number_of-low_bytes-below c.args.n c.args.v)

pub returns-else-n-lt8-clause-small : goal.returns-else-n-lt8-clause-small
returns-else-n-lt8-clause-small c = rw (returns-else-n-lt8-clause-value c) (number_of-low_bytes-below c.args.n c.args.v)
