use Rattle.std.proofs.Common.{◌≡◌, ◌++◌, length}
use Rattle.invoke_by_index.specs.Methods.{prototype}
use Rattle.call_replies.specs.Writes.{have_cells}
use Rattle.call_replies.proofs.checks.have_cells.Given as goal

-- the arguments that remain have their cells where all have
abbrev pub invariant-loop-arg : goal.invariant-loop-arg
invariant-loop-arg l = record {
  whole : l.yielded ++ l.arg-iterator ≡ prototype l.method;
  count : l.k ≡ length l.yielded;
  rest : have_cells l.machine.cells l.values l.k l.arg-iterator ≡ have_cells l.machine.cells l.values 0 (prototype l.method);
}
