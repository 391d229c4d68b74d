use Rattle.std.proofs.Common.{◌≡◌, ◌+◌, ◌++◌, drop, sum_by}
use Rattle.lib_model.specs.Emit.{constant_size, constant_text, placed}
use Rattle.typelib_writer.proofs.constants.put_constants.Given as goal

-- what is written and the constants that are left are all of them, and so are their names
abbrev pub invariant-loop-constant : goal.invariant-loop-constant
invariant-loop-constant l = record {
  text : l.out
      ++ placed constant_text constant_size l.offset (drop l.constant-index l.constants) ≡ l.initial.out
      ++ placed constant_text constant_size l.names l.constants;
  names_left : l.offset + sum_by constant_size (drop l.constant-index l.constants) ≡ l.names + sum_by constant_size l.constants;
}
