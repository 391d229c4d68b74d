use Rattle.std.proofs.Common.{◌≡◌, ◌<◌, ℕ, false, length}
use Rattle.vtable_layout.specs.Layout.{AreValues, has_too_many}
use Rattle.vtable_layout.specs.Slots.{inherited, slots_of}
use Rattle.vtable_layout.proofs.slot_layout.layout.Given as goal

abbrev pub invariant-loop-number : goal.invariant-loop-number
invariant-loop-number l = record {
  first : AreValues (λ k. length (inherited l.scope.ifaces k)) l.number l.first;
  total : AreValues (λ k. length (slots_of l.scope.ifaces k)) l.number l.total;
  few : (k : ℕ) → k < l.number → has_too_many l.scope.ifaces k ≡ false;
}
