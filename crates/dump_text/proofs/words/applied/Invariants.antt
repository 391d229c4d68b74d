use Rattle.std.proofs.Common.{◌≡◌, ◌++◌, take}
use Rattle.std.specs.Prelude.{codes}
use Rattle.dump_text.specs.Words.{number, tag_word}
use Rattle.dump_text.specs.declared.words.TheConstants.{COMMA}
use Rattle.dump_text.proofs.LineLaws.{behind}
use Rattle.dump_text.proofs.words.applied.Given as goal

-- the first number, and the other words so far
abbrev pub invariant-loop-other : goal.invariant-loop-other
invariant-loop-other l =
    l.word ≡ tag_word l.fn.tag ++ codes "(" ++ number l.fn.first ++ behind COMMA (take l.other-index l.others)
