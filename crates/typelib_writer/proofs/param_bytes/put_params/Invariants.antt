use Rattle.std.proofs.Common.{◌≡◌, ◌++◌, drop}
use Rattle.std.specs.List.{flat_map}
use Rattle.lib_model.specs.Emit.{param_text}
use Rattle.typelib_writer.proofs.param_bytes.put_params.Given as goal

-- what is written and the parameters that are left are all of them
abbrev pub invariant-loop-param : goal.invariant-loop-param
invariant-loop-param l = l.out ++ flat_map param_text (drop l.param-index l.params) ≡ l.initial.out
    ++ flat_map param_text l.params
