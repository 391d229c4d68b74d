use Rattle.std.proofs.Common.{◌≡◌, ◌++◌, drop}
use Rattle.lib_model.specs.Emit.{method_names}
use Rattle.typelib_writer.proofs.names.put_method_names.Given as goal

-- what is written and the names that are left are all of them
abbrev pub invariant-loop-method : goal.invariant-loop-method
invariant-loop-method l = l.out ++ method_names (drop l.method-index l.methods) ≡ l.initial.out
    ++ method_names l.methods
