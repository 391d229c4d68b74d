use Rattle.std.proofs.Common.{◌≡◌, ◌+◌, arith, length, ap, subst, ◌∙◌}
use Rattle.call_model.specs.declared.prototypes.Status.{Status}
use Rattle.lib_model.specs.Table.{proto_if, proto_of}
use Rattle.descriptor_reader.specs.Shapes.{HasShape}
use Rattle.descriptor_reader.specs.Views.{MethodOf}
use Rattle.descriptor_reader.proofs.PrototypeLaws.{proto_length}
use Rattle.descriptor_reader.proofs.method_views.MethodView.positions.Goals as goal

pub returns-in-Callable-clause-length : goal.returns-in-Callable-clause-length
returns-in-Callable-clause-length c =
    let m = c.args.self.now.method in
    let s = c.shape_of_method-shape.result in
    let shape = subst (λ (v : MethodOf). HasShape s v.method) c.self.view_is c.shape_of_method-shape.ensures.is in
    let whole : c.from.result + c.param_count.result + c.from-in-Callable.result ≡ length (proto_of m) = omega (arith, proto_length m, shape.first, shape.middle, c.from.ensures, c.from-in-Callable.ensures, c.param_count.ensures.count) in
    whole ∙ ap (λ (s : Status). length (proto_if s m)) c.in-Callable.ensures
