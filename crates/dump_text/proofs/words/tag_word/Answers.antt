use Rattle.std.proofs.Common.{◌≤◌, [], sym, arith}
use Rattle.std.proofs.Math.ListN.{get_or-eq_default}
use Rattle.dump_text.specs.Words.{tag_words}
use Rattle.dump_text.proofs.words.tag_word.Goals as goal

pub returns-in_default : goal.returns-in_default
returns-in_default c =
    let far : 27 ≤ c.args.tag = omega arith in sym (get_or-eq_default tag_words [] far)
