use Rattle.std.proofs.Common.{◌≡◌, length, arith}
use Rattle.vtable_layout.proofs.Climbing.{counts_own}
use Rattle.vtable_layout.proofs.own_slots.own_counts.Goals as goal

pub returns : goal.returns
returns c =
    let whole : c.loop-iface.iface-index ≡ length c.args.ifaces.now = omega arith
    in counts_own c.args.ifaces.now c.loop-iface.counts
    (record {
      as_many = omega (arith, c.loop-iface.invariant.as_many);
      each =
          λ k h. c.loop-iface.invariant.each k (omega (arith, h));
    })
