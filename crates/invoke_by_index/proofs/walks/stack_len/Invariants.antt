use Rattle.std.proofs.Common.{◌≡◌, ◌≤◌, ◌++◌, length}
use Rattle.call_model.specs.Prototype.{types_of}
use Rattle.invoke_by_index.specs.Methods.{prototype}
use Rattle.invoke_by_index.proofs.walks.stack_len.Given as goal

-- the walk has passed by the arguments so far
abbrev pub invariant-loop-arg : goal.invariant-loop-arg
invariant-loop-arg g l = record {
  stands : g.C.Convention.stands_for l.walk (types_of l.yielded);
  whole : l.yielded ++ l.arg-iterator ≡ prototype l.method;
  few : length (l.yielded ++ l.arg-iterator) ≤ 257;
}
