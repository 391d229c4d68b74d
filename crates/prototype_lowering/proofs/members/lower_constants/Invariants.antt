use Rattle.std.proofs.Common.{◌≡◌, take}
use Rattle.std.specs.List.{flat_map}
use Rattle.prototype_lowering.specs.Lowering.{constants_of_member}
use Rattle.prototype_lowering.proofs.members.lower_constants.Given as goal

abbrev pub invariant-loop-member : goal.invariant-loop-member
invariant-loop-member l = l.constants ≡ flat_map constants_of_member (take l.member-index l.members)
