use Rattle.std.proofs.Common.{◌≡◌, ◌+◌, ◌≤◌, length, min, drop}
use Rattle.std.specs.List.{flat_map}
use Rattle.vtable_layout.specs.Slots.{slots_of_member}
use Rattle.vtable_layout.proofs.own_slots.count_slots.Given as goal

abbrev pub invariant-loop-member : goal.invariant-loop-member
invariant-loop-member l = record {
  few : l.count ≤ 251;
  same : min 251 (l.count + length (flat_map slots_of_member (drop l.member-index l.members)))
      ≡ min 251 (length (flat_map slots_of_member l.members));
}
