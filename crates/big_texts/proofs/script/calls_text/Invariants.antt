use Rattle.std.proofs.Common.{◌≡◌}
use Rattle.big_texts.specs.Script.{made_text}
use Rattle.big_texts.specs.Pieces.{pieces}
use Rattle.big_texts.proofs.script.calls_text.Given as goal

abbrev pub invariant-loop-i : goal.invariant-loop-i
invariant-loop-i l = l.text ≡ pieces made_text l.i
