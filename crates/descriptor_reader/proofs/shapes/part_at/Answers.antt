use Rattle.std.proofs.Common.{◌-◌, arith}
use Rattle.descriptor_reader.proofs.PrototypeLaws.{before_stands, behind_stands, context_stands, count_stands, first_stands}
use Rattle.descriptor_reader.proofs.shapes.part_at.Goals as goal

pub returns-then-position-first-clause-stands : goal.returns-then-position-first-clause-stands
returns-then-position-first-clause-stands c = λ m shape. first_stands m c.args.position (omega (arith, shape.first))

pub returns-then-behind-written-clause-stands : goal.returns-then-behind-written-clause-stands
returns-then-behind-written-clause-stands c = λ m shape.
    before_stands m c.args.position (c.args.position - c.from-first.result) (omega (arith, shape.first)) (omega (arith, shape.written))

pub returns-then-added-middle-clause-stands : goal.returns-then-added-middle-clause-stands
returns-then-added-middle-clause-stands c = λ m shape.
    behind_stands m c.args.position (c.args.position - c.from-first.result - c.from-middle.result) (omega (arith, shape.first, shape.middle, shape.written)) (omega (arith, shape.written))

pub returns-then-added-from-clause-stands : goal.returns-then-added-from-clause-stands
returns-then-added-from-clause-stands c = λ m shape.
    context_stands m c.args.position (c.args.position - c.from-first.result - c.from-written.result) (omega (arith, shape.first, shape.written)) (omega (arith, shape.context))

pub returns-else-added-from-clause-stands : goal.returns-else-added-from-clause-stands
returns-else-added-from-clause-stands c = λ m shape.
    count_stands m c.args.position (c.args.position - c.from-first.result - c.from-written.result) (omega (arith, shape.first, shape.written)) (omega (arith, shape.context)) (omega (arith, shape.middle))
