use Rattle.idl_grammar.proofs.TextLaws.{readable}
use Rattle.idl_grammar.proofs.laws.each_text_says_one_thing.Goals as goal

pub returns : goal.returns
returns c = readable
