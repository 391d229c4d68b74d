use Rattle.std.proofs.Common.{◌≡◌, ℕ, List, map, take, slice_get}
use Rattle.std.specs.List.{filter_map}
use Rattle.prototype_lowering.specs.Lowering.{iface_of}
use Rattle.prototype_lowering.specs.Numbering.{IsNumberingOf}
use Rattle.prototype_lowering.proofs.interfaces.lower_ifaces.Given as goal

abbrev pub invariant-loop-number : goal.invariant-loop-number
invariant-loop-number l =
    (d : List ℕ) → IsNumberingOf d l.numbers
    → l.lowered ≡ map (iface_of d) (filter_map (slice_get l.ifaces) (take l.number-index l.order))
