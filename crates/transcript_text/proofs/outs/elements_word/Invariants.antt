use Rattle.std.proofs.Common.{◌≡◌, ◌++◌, take, codes}
use Rattle.std.specs.List.{join_with_byte}
use Rattle.transcript_text.proofs.outs.elements_word.Given as goal

-- the elements so far
abbrev pub invariant-loop-i : goal.invariant-loop-i
invariant-loop-i l = l.word ≡ codes "[" ++ join_with_byte 32 (take l.i l.elements)
