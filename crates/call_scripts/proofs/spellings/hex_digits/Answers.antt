use Rattle.std.proofs.Common.{sym, arith}
use Rattle.call_scripts.proofs.Numerals.{digits_too_long, digits_from, digits_within}
use Rattle.call_scripts.proofs.spellings.hex_digits.Goals as goal

pub returns-then-longest-word-clause-value : goal.returns-then-longest-word-clause-value
returns-then-longest-word-clause-value c = sym (digits_too_long 16 c.args.longest c.args.word.now c.if-longest-word.true)

pub returns-clause-value : goal.returns-clause-value
returns-clause-value c = digits_from 16 16 c.args.longest c.args.word.now c.hex_read.result c.hex_read.ensures c.if-longest-word.false c.requires

pub returns-clause-bound : goal.returns-clause-bound
returns-clause-bound c =
    digits_within 16 c.args.longest c.args.word.now c.hex_read.result (omega arith) (digits_from 16 16 c.args.longest c.args.word.now c.hex_read.result c.hex_read.ensures c.if-longest-word.false c.requires)
