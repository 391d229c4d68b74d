use Rattle.std.proofs.Common.{length, min}
use Rattle.vtable_layout.specs.Layout.{AreValues}
use Rattle.vtable_layout.specs.Slots.{own_of}
use Rattle.vtable_layout.proofs.own_slots.own_counts.Given as goal

abbrev pub invariant-loop-iface : goal.invariant-loop-iface
invariant-loop-iface l =
    AreValues (λ k. min 251 (length (own_of l.ifaces k))) l.iface-index l.counts
