use Rattle.std.proofs.Common.{◌+◌, ℕ, ap, ◌∙◌, length, arith, length-append}
use Rattle.std.proofs.lemmas.Result.{err_from_is_err_and}
use Rattle.lib_model.specs.Emit.{body_names, name_text, namespace_text, offset_if}
use Rattle.lib_model.proofs.Sizes.{length_part_names}
use Rattle.typelib_writer.proofs.Parts.{behind_name, behind_own, part_grown, same_error}
use Rattle.typelib_writer.proofs.interfaces.put_part.Goals as goal

pub returns-in_err-namespace-clause-too_long : goal.returns-in_err-namespace-clause-too_long
returns-in_err-namespace-clause-too_long c =
    let p = err_from_is_err_and c.from_residual-in_err-namespace.result c.from_residual-in_err-namespace.ensures.1
    in rw (p.1, p.2)
    (λ h. omega (
      arith,
      c.in_err-namespace.ensures.too_long (same_error _ _ h),
      ap length c.in_ok-put_name.ensures,
      length-append c.args.pool.now (name_text c.args.iface.now.name),
      length_part_names (length c.args.pool.now + 1) c.args.iface.now,
    ))

pub returns-in_err-descriptor-clause-too_long : goal.returns-in_err-descriptor-clause-too_long
returns-in_err-descriptor-clause-too_long c =
    let p = err_from_is_err_and c.from_residual-in_err-descriptor.result c.from_residual-in_err-descriptor.ensures.1
    in rw (p.1, p.2)
    (λ h. omega (
      arith,
      c.in_err-descriptor.ensures.too_long (same_error _ _ h),
      ap length c.in_ok-put_name.ensures,
      length-append c.args.pool.now (name_text c.args.iface.now.name),
      ap length c.in_ok-namespace.ensures.text,
      length-append c.put_name.new.out (namespace_text c.args.iface.now.namespace),
      length_part_names (length c.args.pool.now + 1) c.args.iface.now,
    ))

pub returns-clause-text : goal.returns-clause-text
returns-clause-text c =
    part_grown _ _ _ _ _ (record { name = c.in_ok-put_name.ensures; namespace = c.in_ok-namespace.ensures.text; body = c.in_ok-descriptor.ensures.text })

pub returns-clause-places : goal.returns-clause-places
returns-clause-places c = record {
  name = c.in_ok-name.ensures.ok;
  namespace = c.in_ok-namespace.ensures.place
      ∙ ap (offset_if c.args.iface.now.namespace) (behind_name c.args.iface.now _ _ c.in_ok-put_name.ensures);
  descriptor =
      c.in_ok-descriptor.ensures.place
      ∙ ap (λ (k : ℕ). offset_if c.args.iface.now.body (k + length (body_names c.args.iface.now.body))) (behind_own c.args.iface.now _ _ _ c.in_ok-put_name.ensures c.in_ok-namespace.ensures.text);
}
