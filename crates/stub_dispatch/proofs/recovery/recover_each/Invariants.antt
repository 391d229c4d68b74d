use Rattle.std.proofs.Common.{◌≡◌, ℕ, ◌<◌, ◌≤◌, ◌++◌, length, get_or}
use Rattle.call_model.specs.Prototype.{types_of}
use Rattle.invoke_by_index.specs.Methods.{prototype}
use Rattle.stub_dispatch.proofs.Recovered.{IsReceived}
use Rattle.stub_dispatch.proofs.recovery.recover_each.Given as goal

-- the walk has passed by the arguments so far, and their cells hold what is received for them
abbrev pub invariant-loop-arg : goal.invariant-loop-arg
invariant-loop-arg g l = record {
  stands : g.C.Convention.stands_for l.walk (types_of l.yielded);
  whole : l.yielded ++ l.arg-iterator ≡ prototype l.method;
  few : length (l.yielded ++ l.arg-iterator) ≤ 257;
  count : l.i ≡ length l.yielded;
  paired : length l.cells ≡ length (prototype l.method);
  each : (k : ℕ) → k < l.i → IsReceived g.C.Convention.CONV (prototype l.method) l.frame k (get_or l.cells k 0);
}
