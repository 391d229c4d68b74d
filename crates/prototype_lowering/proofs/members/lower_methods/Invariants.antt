use Rattle.std.proofs.Common.{◌≡◌, ℕ, List, map, take}
use Rattle.std.specs.List.{flat_map}
use Rattle.vtable_layout.specs.Slots.{slots_of_member}
use Rattle.prototype_lowering.specs.Lowering.{method_of}
use Rattle.prototype_lowering.specs.Numbering.{IsNumberingOf}
use Rattle.prototype_lowering.proofs.members.lower_methods.Given as goal

abbrev pub invariant-loop-member : goal.invariant-loop-member
invariant-loop-member l =
    (d : List ℕ) → IsNumberingOf d l.numbers
    → l.methods ≡ map (method_of d) (flat_map slots_of_member (take l.member-index l.members))
