use Rattle.std.proofs.Common.{◌≡◌, ◌++◌, drop}
use Rattle.idl_meaning.specs.Scopes.{params_made}
use Rattle.idl_names.specs.Bindings.{names_of}
use Rattle.idl_names.specs.Parameters.{numbers_of}
use Rattle.idl_names.proofs.parameters.all_made.Given as goal

abbrev pub invariant-loop-param : goal.invariant-loop-param
invariant-loop-param l =
    params_made (names_of l.names) (numbers_of l.named) l.params ≡ l.all ++ params_made (names_of l.names) (numbers_of l.named) (drop l.param-index l.params)
