use Rattle.std.proofs.Common.{◌≡◌, ◌+◌, ◌≤◌, length, min, drop, sum_by}
use Rattle.lib_model.specs.declared.contents.Method.{Method}
use Rattle.prototype_lowering.proofs.limits.method_items.Given as goal

abbrev pub invariant-loop-method : goal.invariant-loop-method
invariant-loop-method l = record {
  few : l.count ≤ 1000001;
  same : min 1000001
      (l.count + sum_by (λ (m : Method). 1 + length m.params) (drop l.method-index l.methods))
      ≡ min 1000001 (sum_by (λ (m : Method). 1 + length m.params) l.methods);
}
