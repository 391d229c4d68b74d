use Rattle.std.proofs.Common.{◌≡◌, ℕ, List, map, take}
use Rattle.prototype_lowering.specs.Lowering.{param_of}
use Rattle.prototype_lowering.specs.Numbering.{IsNumberingOf}
use Rattle.prototype_lowering.proofs.members.written_params.Given as goal

abbrev pub invariant-loop-param : goal.invariant-loop-param
invariant-loop-param l =
    (d : List ℕ) → IsNumberingOf d l.numbers
    → l.lowered ≡ map (param_of d) (take l.param-index l.params)
