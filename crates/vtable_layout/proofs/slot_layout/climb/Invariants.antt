use Rattle.std.proofs.Common.{◌≡◌, ◌≤◌, Some}
use Rattle.vtable_layout.proofs.Climbing.{outcome}
use Rattle.vtable_layout.proofs.slot_layout.climb.Given as goal

abbrev pub invariant-loop-at : goal.invariant-loop-at
invariant-loop-at l = record {
  same : outcome l.ifaces l.left l.total l.at ≡ outcome l.ifaces 250 0 (Some l.number);
  few : l.total ≤ 250;
}

abbrev pub decreases-loop-at : goal.decreases-loop-at
decreases-loop-at l = l.left
