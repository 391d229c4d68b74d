use Rattle.std.proofs.Common.{[], ap, sym, ◌∙◌, true, false}
use Rattle.xp_base.specs.declared.kinds.Dir.TheVariants.{Outward}
use Rattle.prototype_lowering.specs.Lowering.{alone, goes_in, goes_out, is_dipper, param_flags}
use Rattle.prototype_lowering.proofs.LoweredLists.{lone_types}
use Rattle.prototype_lowering.proofs.members.given_param.Goals as goal

pub returns : goal.returns
returns c = λ d numbered j. record {
  flags = (c.flags_by.ensures
      ∙ (λ i. record {
        bits = param_flags (goes_in Outward (c.is_class.ensures i))
            (goes_out Outward (c.is_class.ensures i)) true false
            (is_dipper Outward (c.is_class.ensures i)) false;
      })) j;
  ty = (c.alone.ensures ∙ ap alone (c.elem_of.ensures d numbered)
      ∙ sym (lone_types d [] c.args.ty.now).given) j;
}
