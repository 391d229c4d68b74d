use Rattle.std.proofs.Common.{◌≡◌, take}
use Rattle.dump_text.proofs.LineLaws.{behind_marked}
use Rattle.dump_text.proofs.lines.marked_words.Given as goal

-- the words so far, each behind a separator
abbrev pub invariant-loop-marked : goal.invariant-loop-marked
invariant-loop-marked l = l.text ≡ behind_marked l.separator (take l.marked-index l.words)
