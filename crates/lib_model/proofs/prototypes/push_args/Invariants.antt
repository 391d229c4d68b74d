use Rattle.std.proofs.Common.{◌≡◌, ◌++◌, drop}
use Rattle.std.specs.Prelude.{map}
use Rattle.lib_model.specs.Table.{arg_of}
use Rattle.lib_model.proofs.prototypes.push_args.Given as goal

-- what is added and the parameters that are left are all of them
abbrev pub invariant-loop-param : goal.invariant-loop-param
invariant-loop-param l =
    l.proto ++ map (arg_of l.method) (drop l.param-index l.params)
    ≡ l.initial.proto ++ map (arg_of l.method) l.params
