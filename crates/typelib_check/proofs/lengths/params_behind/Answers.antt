use Rattle.std.proofs.Common.{arith}
use Rattle.typelib_faults.specs.Places.{param_end}
use Rattle.typelib_faults.proofs.WalkFacts.{step_more}
use Rattle.typelib_check.proofs.PartLaws.{param_there}
use Rattle.typelib_check.proofs.lengths.params_behind.Goals as goal

pub param_behind-place-requires-clause-form : goal.param_behind-place-requires-clause-form
param_behind-place-requires-clause-form c =
    (param_there c.args.file.now.bytes.now c.args.params c.loop.counter c.loop.place c.requires (omega arith) c.loop.invariant).0

pub param_behind-place-requires-clause-inside : goal.param_behind-place-requires-clause-inside
param_behind-place-requires-clause-inside c =
    (param_there c.args.file.now.bytes.now c.args.params c.loop.counter c.loop.place c.requires (omega arith) c.loop.invariant).1

pub loop-preserved : goal.loop-preserved
loop-preserved c =
    let x = c.args.file.now.bytes.now in
    step_more (param_end x) c.args.params.from.place c.loop.place c.param_behind-place.result c.loop.counter c.loop.invariant c.param_behind-place.ensures
