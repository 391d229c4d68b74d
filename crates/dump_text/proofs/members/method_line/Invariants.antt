use Rattle.std.proofs.Common.{◌≡◌, ◌∷◌, [], ◌++◌}
use Rattle.std.specs.Prelude.{map}
use Rattle.dump_text.specs.Lines.{spaced}
use Rattle.dump_text.specs.Listing.{method_line}
use Rattle.dump_text.specs.Words.{param_word}
use Rattle.dump_text.specs.declared.lines.TheConstants.{LF}
use Rattle.dump_text.proofs.members.method_line.Given as goal

-- the words so far, and those of the parameters that are left
abbrev pub invariant-loop-param : goal.invariant-loop-param
invariant-loop-param l =
    l.line ++ (spaced (map param_word l.param-iterator) ++ LF ∷ []) ≡ method_line l.fn.method.slot l.fn.method.method
