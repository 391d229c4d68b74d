use Rattle.std.proofs.Common.{◌≡◌, map, take}
use Rattle.xp_base.specs.Digits.{hex_digits}
use Rattle.transcript_text.proofs.frames.hex_words.Given as goal

abbrev pub invariant-loop-number : goal.invariant-loop-number
invariant-loop-number l = l.words ≡ map hex_digits (take l.number-index l.numbers)
