use Rattle.std.proofs.Common.{◌≡◌, ◌+◌, ◌*◌, ◌≤◌, ◌∷◌, ◌++◌, length}
use Rattle.call_model.specs.Placement.{stack_len_of}
use Rattle.call_model.specs.Prototype.{types_of}
use Rattle.call_model.specs.Values.{arguments, canon_all}
use Rattle.object_memory.specs.Lends.{with_frame}
use Rattle.invoke_by_index.specs.Calls.{values_in}
use Rattle.invoke_by_index.specs.Methods.{prototype}
use Rattle.invoke_by_index.proofs.Filled.{Holds}
use Rattle.invoke_by_index.proofs.calls.fill_from_cells.Given as goal

-- the frame holds the object's address and the values of the cells so far, and nothing else changed
abbrev pub invariant-loop-arg : goal.invariant-loop-arg
invariant-loop-arg g l = record {
  stands : g.C.Convention.stands_for l.walk (types_of l.yielded);
  whole : l.yielded ++ l.arg-iterator ≡ prototype l.method;
  few : length (l.yielded ++ l.arg-iterator) ≤ 257;
  cell : l.cell ≡ l.base + 8 * length l.yielded;
  alone : l.machine ≡ with_frame l.fn.machine l.machine.frame;
  holds : Holds
      (arguments g.C.Convention.CONV (types_of l.yielded) (canon_all g.C.Convention.CONV (types_of l.yielded) (l.this ∷ values_in l.fn.machine l.base l.yielded)))
      (stack_len_of g.C.Convention.CONV (types_of (prototype l.method))) l.machine.frame;
}
