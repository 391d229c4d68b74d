use Rattle.std.proofs.Common.{rules, eqb}
use borrow.Author.Tests.{tests}
use Rattle.std.proofs.lemmas.Iterator.Consumers.{map_from_collect}
use Rattle.std.proofs.lemmas.Iterator.Splits.{YieldsList-from_slice_split}
use Rattle.header_reader.proofs.arguments.parts.Goals as goal

-- the parts between commas
pub returns : goal.returns
returns c =
    map_from_collect _ c.collect.ensures.ran
    (YieldsList-from_slice_split _ (λ b. eqb b 44) c.args.word.now (cc) (cc) (cc) (λ x b q k. search (rules, tests)))
