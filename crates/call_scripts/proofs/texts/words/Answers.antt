use Rattle.std.proofs.Common.{rules, length, not, eqb}
use borrow.Author.Tests.{tests}
use Rattle.std.proofs.lemmas.Iterator.Consumers.{YieldsList-from_filter, map_from_collect}
use Rattle.std.proofs.lemmas.Iterator.Splits.{YieldsList-from_slice_split}
use Rattle.call_scripts.specs.Texts.{is_blank}
use Rattle.call_scripts.proofs.texts.words.Goals as goal

-- the parts between blanks, those with no byte left out
pub returns : goal.returns
returns c =
    map_from_collect _ c.collect.ensures.ran
    (YieldsList-from_filter _ (λ w. not (eqb (length w) 0))
    (YieldsList-from_slice_split _ is_blank c.args.line.now (cc) (cc) (cc) (λ x b q k. search (rules, tests))) (cc) (λ x b q k. search (rules, tests)))
