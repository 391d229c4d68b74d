use Rattle.std.proofs.Common.{arith, refl, sym}
use Rattle.typelib_check.proofs.StepLaws.{part_here, step_on}
use Rattle.typelib_faults.specs.Places.{method_at, method_end}
use Rattle.descriptor_reader.proofs.LoopLaws.{value_here}
use Rattle.descriptor_reader.proofs.members.method_by_number.Goals as goal

pub method_behind-at-requires : goal.method_behind-at-requires
method_behind-at-requires c = part_here c.loop.invariant (omega arith)

pub loop-preserved : goal.loop-preserved
loop-preserved c = step_on _ c.loop.invariant c.method_behind-at.ensures

pub returns-clause-method : goal.returns-clause-method
returns-clause-method c =
    let x = c.args.file.now.bytes.now in
    sym (value_here (method_at x) (method_end x) (λ s. refl) c.loop.invariant c.args.number (omega arith) (omega arith))

pub returns-clause-fine : goal.returns-clause-fine
returns-clause-fine c = part_here c.loop.invariant (omega arith)
