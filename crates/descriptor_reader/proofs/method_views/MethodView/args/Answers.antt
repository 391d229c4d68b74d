use Rattle.std.proofs.Common.{ap, arith, length, sym, ◌+◌, ◌≡◌, ◌∙◌}
use Rattle.lib_model.specs.Table.{slot_of}
use Rattle.typelib_faults.specs.Places.{param_end}
use Rattle.typelib_faults.specs.Walk.{reach}
use Rattle.descriptor_reader.specs.Shapes.{params_before}
use Rattle.descriptor_reader.specs.Views.{MethodOf}
use Rattle.descriptor_reader.proofs.method_views.MethodView.args.Goals as goal

pub invariant_of-result : goal.invariant_of-result
invariant_of-result c =
    let x = c.self.inside.checked.file.bytes.now in
    let place = c.self.inside.at.place + 6 in
    let none : params_before c.shape_of_method.result 0 ≡ 0 = omega arith in
    record {
      at = record {
        fine = c.self.invariant;
        shape = c.shape_of_method.ensures.is;
        few = c.shape_of_method.ensures.few;
        reached = ap (reach (param_end x) place) (sym none);
      };
      ends = c.positions.ensures.length ∙ ap (λ (v : MethodOf). length (slot_of v.method).proto) (sym c.self.view_is);
      low = omega (arith, c.positions.ensures.few);
    }
