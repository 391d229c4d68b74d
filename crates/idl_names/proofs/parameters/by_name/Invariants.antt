use Rattle.std.proofs.Common.{◌≡◌, ◌≤◌, drop, length}
use Rattle.idl_meaning.specs.Scopes.{number_from}
use Rattle.idl_meaning.specs.Faults.{param_of}
use Rattle.idl_names.specs.Parameters.{numbers_of, params_of}
use Rattle.idl_names.proofs.parameters.by_name.Given as goal

abbrev pub invariant-back : goal.invariant-back
invariant-back l = record {
  numbers : numbers_of l.named ≡ number_from l.left (drop l.left l.params);
  params : params_of l.named ≡ param_of (drop l.left l.params);
  within : l.left ≤ length l.params;
}

abbrev pub decreases-back : goal.decreases-back
decreases-back l = l.left
