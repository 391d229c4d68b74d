use Rattle.std.proofs.Common.{◌≡◌, ◌++◌, drop}
use Rattle.lib_model.specs.Emit.{constant_names}
use Rattle.typelib_writer.proofs.names.put_constant_names.Given as goal

-- what is written and the names that are left are all of them
abbrev pub invariant-loop-constant : goal.invariant-loop-constant
invariant-loop-constant l = l.out
    ++ constant_names (drop l.constant-index l.constants) ≡ l.initial.out
    ++ constant_names l.constants
