use Rattle.std.proofs.Common.{◌≡◌}
use Rattle.big_texts.specs.Script.{value_text}
use Rattle.big_texts.specs.Pieces.{pieces}
use Rattle.big_texts.proofs.script.values_text.Given as goal

abbrev pub invariant-loop-j : goal.invariant-loop-j
invariant-loop-j l = l.text ≡ pieces (value_text l.fn.i) l.j
