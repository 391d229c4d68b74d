use Rattle.std.proofs.Common.{◌≡◌, map}
use Rattle.std.specs.List.{range_with_len}
use Rattle.script_meaning.specs.Outs.{element_text}
use Rattle.script_outs.proofs.arrays.element_words.Given as goal

-- the words of the elements so far
abbrev pub invariant-loop-i : goal.invariant-loop-i
invariant-loop-i l = l.words ≡ map (element_text l.conv l.elem l.bytes) (range_with_len 0 l.i)
