use Rattle.std.proofs.Common.{arith}
use Rattle.typelib_faults.specs.Places.{param_at, param_end}
use Rattle.typelib_faults.proofs.WalkFacts.{length_values}
use Rattle.descriptor_reader.proofs.method_views.MethodView.params.Goals as goal

pub returns-clause-few : goal.returns-clause-few
returns-clause-few c =
    let x = c.self.inside.checked.file.bytes.now in
    let p = c.params_of_method-params.result in
    omega (arith, length_values (param_at x) (param_end x) p.from.place p.count)
