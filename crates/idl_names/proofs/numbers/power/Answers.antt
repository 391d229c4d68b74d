use Rattle.std.proofs.Common.{◌^◌, ◌<◌, arith}
use Rattle.std.proofs.Math.Pow.{pow-lt}
use Rattle.std.proofs.lemmas.Int.{ints}
use Rattle.idl_names.proofs.numbers.power.Goals as goal

pub returns : goal.returns
returns c = let low : 2 ^ c.args.by < 2 ^ 63 = pow-lt c.requires in grind (arith, ints, low)

pub overflow_cast-result : goal.overflow_cast-result
overflow_cast-result c = let low : 2 ^ c.args.by < 2 ^ 63 = pow-lt c.requires in record { sfits = grind (arith, ints, low) }
