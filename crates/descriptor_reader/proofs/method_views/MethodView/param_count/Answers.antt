use Rattle.std.proofs.Common.{List, ap, length, subst, sym, ◌∙◌}
use Rattle.lib_model.specs.declared.param_types.Param.{Param}
use Rattle.lib_model.specs.Valid.{IsMethod}
use Rattle.typelib_faults.specs.Places.{param_at, param_end}
use Rattle.typelib_faults.proofs.WalkFacts.{length_values}
use Rattle.descriptor_reader.specs.Views.{MethodOf}
use Rattle.descriptor_reader.proofs.ViewLaws.{method_valid}
use Rattle.descriptor_reader.proofs.method_views.MethodView.param_count.Goals as goal

pub returns-clause-count : goal.returns-clause-count
returns-clause-count c =
    let x = c.self.inside.checked.file.bytes.now in
    let p = c.params_of_method.result in
    c.from.ensures
    ∙ (sym (length_values (param_at x) (param_end x) p.from.place p.count)
    ∙ (ap (λ (ps : List Param). length ps) c.params_of_method.ensures.are ∙ ap (λ (v : MethodOf). length v.method.params) c.self.view_is))

pub returns-clause-valid : goal.returns-clause-valid
returns-clause-valid c =
    let f = c.self.inside.checked in
    subst (λ (m : MethodOf). IsMethod (length m.library.ifaces) m.method) c.self.view_is (method_valid f.file.bytes.now c.self.inside.at f.are_bytes c.self.invariant)
