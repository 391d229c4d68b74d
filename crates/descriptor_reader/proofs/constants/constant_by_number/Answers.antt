use Rattle.std.proofs.Common.{arith, refl, sym}
use Rattle.typelib_faults.specs.Places.{constant_at, constant_end}
use Rattle.typelib_faults.proofs.WalkFacts.{values_past}
use Rattle.typelib_check.proofs.StepLaws.{part_here, step_on}
use Rattle.descriptor_reader.proofs.LoopLaws.{value_here}
use Rattle.descriptor_reader.proofs.constants.constant_by_number.Goals as goal

pub returns-then-number-constants-clause-constant :
    goal.returns-then-number-constants-clause-constant
returns-then-number-constants-clause-constant c =
    let x = c.args.file.now.bytes.now in
    sym (values_past (constant_at x) (constant_end x) c.args.constants.from.place c.args.constants.count c.args.number (omega arith))

pub constant_behind-at-requires : goal.constant_behind-at-requires
constant_behind-at-requires c = part_here c.loop.invariant (omega arith)

pub loop-preserved : goal.loop-preserved
loop-preserved c = step_on _ c.loop.invariant c.constant_behind-at.ensures

pub returns-clause-constant : goal.returns-clause-constant
returns-clause-constant c =
    let x = c.args.file.now.bytes.now in
    value_here (constant_at x) (constant_end x) (λ s. refl) c.loop.invariant c.args.number (omega arith) (omega arith)

pub returns-clause-fine : goal.returns-clause-fine
returns-clause-fine c = part_here c.loop.invariant (omega arith)
