use Rattle.std.proofs.Common.{arith, refl, sym, ◌∙◌}
use Rattle.typelib_faults.specs.Places.{method_at, method_end}
use Rattle.typelib_check.proofs.StepLaws.{part_here}
use Rattle.descriptor_reader.proofs.LoopLaws.{first_here, first_nowhere, past_on, value_here}
use Rattle.descriptor_reader.proofs.members.first_member.Goals as goal

pub has_kind_and_name-requires : goal.has_kind_and_name-requires
has_kind_and_name-requires c = part_here c.loop-slot.invariant.is (omega arith)

pub returns-then-has_kind_and_name-clause-first : goal.returns-then-has_kind_and_name-clause-first
returns-then-has_kind_and_name-clause-first c =
    sym (first_here (λ s. refl) c.loop-slot.invariant (omega arith) (sym c.has_kind_and_name.ensures ∙ c.if-has_kind_and_name.true))

pub returns-then-has_kind_and_name-clause-method : goal.returns-then-has_kind_and_name-clause-method
returns-then-has_kind_and_name-clause-method c =
    let x = c.args.file.now.bytes.now in
    sym (value_here (method_at x) (method_end x) (λ s. refl) c.loop-slot.invariant.is c.loop-slot.slot refl (omega arith))

pub returns-then-has_kind_and_name-clause-fine : goal.returns-then-has_kind_and_name-clause-fine
returns-then-has_kind_and_name-clause-fine c = part_here c.loop-slot.invariant.is (omega arith)

pub method_behind-at-requires : goal.method_behind-at-requires
method_behind-at-requires c = part_here c.loop-slot.invariant.is (omega arith)

pub loop-slot-preserved : goal.loop-slot-preserved
loop-slot-preserved c =
    past_on _ (λ s. refl) c.loop-slot.invariant (sym c.has_kind_and_name.ensures ∙ c.if-has_kind_and_name.false) c.method_behind-at.ensures

pub returns-clause-first : goal.returns-clause-first
returns-clause-first c = sym (first_nowhere c.loop-slot.invariant (omega arith))
