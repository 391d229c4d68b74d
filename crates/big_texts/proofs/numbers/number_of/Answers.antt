use Rattle.std.proofs.Common.{arith, sym}
use Rattle.big_texts.proofs.NumberLaws.{none_read}
use Rattle.big_texts.proofs.numbers.number_of.Goals as goal

pub returns-in-None : goal.returns-in-None
returns-in-None c =
    none_read c.args.word.now (omega (arith, c.if-word-gt-LONGEST.false)) (sym c.if-not-are_digits.ensures) c.in-None.ensures
