use Rattle.std.proofs.Common.{◌≡◌}
use Rattle.big_texts.specs.Idl.{param_text}
use Rattle.big_texts.specs.Pieces.{pieces}
use Rattle.big_texts.proofs.idl.params_text.Given as goal

abbrev pub invariant-loop-j : goal.invariant-loop-j
invariant-loop-j l = l.text ≡ pieces (param_text l.fn.i) l.j
