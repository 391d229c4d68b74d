use Rattle.std.proofs.Common.{◌≡◌, ◌+◌, ◌++◌, drop, sum_by}
use Rattle.lib_model.specs.Emit.{method_size, method_text, placed}
use Rattle.typelib_writer.proofs.methods.put_methods.Given as goal

-- what is written and the methods that are left are all of them, and so are their names
abbrev pub invariant-loop-method : goal.invariant-loop-method
invariant-loop-method l = record {
  text : l.out
      ++ placed method_text method_size l.offset (drop l.method-index l.methods) ≡ l.initial.out
      ++ placed method_text method_size l.names l.methods;
  names_left : l.offset + sum_by method_size (drop l.method-index l.methods) ≡ l.names + sum_by method_size l.methods;
}
