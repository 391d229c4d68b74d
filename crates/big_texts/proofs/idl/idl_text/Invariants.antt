use Rattle.std.proofs.Common.{◌≡◌}
use Rattle.big_texts.specs.Idl.{iface_text}
use Rattle.big_texts.specs.Pieces.{pieces}
use Rattle.big_texts.proofs.idl.idl_text.Given as goal

abbrev pub invariant-loop-i : goal.invariant-loop-i
invariant-loop-i l = l.text ≡ pieces iface_text l.i
