use Rattle.std.proofs.Common.{◌≡◌, Some, drop}
use Rattle.idl_meaning.specs.Constants as spec
use Rattle.idl_meaning.specs.Scopes.{visible}
use Rattle.idl_names.specs.Views.{inside_of}
use Rattle.idl_names.proofs.expressions.value.Given as goal

abbrev pub invariant-loop-step : goal.invariant-loop-step
invariant-loop-step l =
    spec.value_of (visible (inside_of l.here)) l.steps ≡ spec.run (visible (inside_of l.here)) (Some l.values.items) (drop l.step-index l.steps)
