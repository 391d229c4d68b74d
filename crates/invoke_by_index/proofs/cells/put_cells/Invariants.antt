use Rattle.std.proofs.Common.{◌≡◌, ◌+◌, ◌*◌, ◌≤◌, ◌++◌, length}
use Rattle.invoke_by_index.specs.Arguments.{parameters}
use Rattle.invoke_by_index.specs.Methods.{prototype}
use Rattle.invoke_by_index.proofs.Filling.{filled_to}
use Rattle.invoke_by_index.proofs.cells.put_cells.Given as goal

-- the cells so far hold their numbers, and nothing else changed
abbrev pub invariant-loop-param : goal.invariant-loop-param
invariant-loop-param l = record {
  whole : l.yielded ++ l.param-iterator ≡ prototype l.method;
  few : length (l.yielded ++ l.param-iterator) ≤ 257;
  counted : l.k ≡ length (parameters l.yielded);
  low : l.k ≤ length l.yielded;
  place : l.cell ≡ l.base + 8 * length l.yielded;
  filled : l.machine ≡ filled_to l.fn.machine l.base l.context (prototype l.method) l.args (length l.yielded);
}
