use Rattle.std.proofs.Common.{ap, arith, refl, sym, ◌∙◌, ◌≡◌}
use Rattle.lib_model.specs.declared.param_types.Param.{Param}
use Rattle.lib_model.specs.Table.{is_opaque}
use Rattle.typelib_faults.specs.declared.cursor.Cursor.{Cursor}
use Rattle.typelib_faults.specs.Places.{param_at}
use Rattle.typelib_check.proofs.StepLaws.{part_here}
use Rattle.descriptor_reader.proofs.LoopLaws.{any_here, any_nowhere, past_on}
use Rattle.descriptor_reader.proofs.statuses.any_opaque.Goals as goal

pub known_param-requires : goal.known_param-requires
known_param-requires c = part_here c.loop.invariant.is (omega arith)

pub returns-then-is_opaque : goal.returns-then-is_opaque
returns-then-is_opaque c =
    let found : param_at c.args.file.now.bytes.now c.loop.at.place ≡ c.known_param.result.0 = sym (ap (λ (p : Param × Cursor). p.0) c.known_param.ensures.is) in
    sym (any_here (λ s. refl) c.loop.invariant (omega arith) (ap (λ (p : Param). is_opaque p.ty) found ∙ (sym c.is_opaque.ensures ∙ c.if-is_opaque.true)))

pub loop-preserved : goal.loop-preserved
loop-preserved c =
    let found : param_at c.args.file.now.bytes.now c.loop.at.place ≡ c.known_param.result.0 = sym (ap (λ (p : Param × Cursor). p.0) c.known_param.ensures.is) in
    past_on _ (λ s. refl) c.loop.invariant (ap (λ (p : Param). is_opaque p.ty) found ∙ (sym c.is_opaque.ensures ∙ c.if-is_opaque.false)) (ap (λ (p : Param × Cursor). p.1) c.known_param.ensures.is)

pub returns : goal.returns
returns c = sym (any_nowhere c.loop.invariant (omega arith))
