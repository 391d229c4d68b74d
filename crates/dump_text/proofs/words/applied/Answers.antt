use Rattle.std.proofs.Common.{◌≡◌, take, ◌∙◌, arith}
use Rattle.std.proofs.lemmas.List.{take_all}
use Rattle.dump_text.specs.Words.{number, tag_word}
use Rattle.dump_text.proofs.WordLaws.{applied_is}
use Rattle.dump_text.proofs.words.applied.Goals as goal

pub returns : goal.returns
returns c =
    let all : take c.loop-other.other-index c.args.others.now ≡ c.args.others.now = take_all _ _ (omega arith) in
    let law = applied_is (tag_word c.args.tag) (number c.args.first) c.loop-other.word (take c.loop-other.other-index c.args.others.now) c.args.others.now all c.loop-other.invariant in
    c.in_ok-append-5.ensures.ok ∙ law
