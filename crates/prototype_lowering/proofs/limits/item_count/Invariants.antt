use Rattle.std.proofs.Common.{◌≡◌, ◌+◌, ◌≤◌, min, drop, sum_by}
use Rattle.lib_model.specs.Valid.{iface_items}
use Rattle.prototype_lowering.proofs.limits.item_count.Given as goal

abbrev pub invariant-loop-iface : goal.invariant-loop-iface
invariant-loop-iface l = record {
  few : l.count ≤ 1000001;
  same : min 1000001 (l.count + sum_by iface_items (drop l.iface-index l.ifaces))
      ≡ min 1000001 (sum_by iface_items l.ifaces);
}
