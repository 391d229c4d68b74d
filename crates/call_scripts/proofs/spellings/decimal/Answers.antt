use Rattle.call_scripts.proofs.Numerals.{decimal_from}
use Rattle.call_scripts.proofs.spellings.decimal.Goals as goal

pub returns : goal.returns
returns c = decimal_from c.args.word.now c.dec_read.result c.dec_read.ensures
