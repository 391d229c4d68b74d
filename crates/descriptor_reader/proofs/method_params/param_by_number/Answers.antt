use Rattle.std.proofs.Common.{Some, ap, arith, sym, ◌∙◌, ◌≡◌, ℕ}
use Rattle.typelib_faults.specs.Places.{param_at, param_end}
use Rattle.typelib_faults.specs.Walk.{reach}
use Rattle.typelib_faults.proofs.WalkFacts.{step_more, values_get, values_past}
use Rattle.typelib_check.proofs.PartLaws.{param_there}
use Rattle.descriptor_reader.proofs.method_params.param_by_number.Goals as goal

pub returns-then-number-from : goal.returns-then-number-from
returns-then-number-from c =
    let x = c.args.file.now.bytes.now in
    sym (values_past (param_at x) (param_end x) c.args.params.from.place c.args.params.count c.args.number (omega arith))

pub param_behind-place-requires-clause-form : goal.param_behind-place-requires-clause-form
param_behind-place-requires-clause-form c =
    (param_there c.args.file.now.bytes.now c.args.params c.loop.counter c.loop.place c.requires (omega arith) c.loop.invariant).0

pub param_behind-place-requires-clause-inside : goal.param_behind-place-requires-clause-inside
param_behind-place-requires-clause-inside c =
    (param_there c.args.file.now.bytes.now c.args.params c.loop.counter c.loop.place c.requires (omega arith) c.loop.invariant).1

pub loop-preserved : goal.loop-preserved
loop-preserved c =
    let x = c.args.file.now.bytes.now in
    step_more (param_end x) c.args.params.from.place c.loop.place c.param_behind-place.result c.loop.counter c.loop.invariant c.param_behind-place.ensures

pub param_value-requires-clause-form : goal.param_value-requires-clause-form
param_value-requires-clause-form c =
    (param_there c.args.file.now.bytes.now c.args.params c.loop.counter c.loop.place c.requires (omega arith) c.loop.invariant).0

pub param_value-requires-clause-inside : goal.param_value-requires-clause-inside
param_value-requires-clause-inside c =
    (param_there c.args.file.now.bytes.now c.args.params c.loop.counter c.loop.place c.requires (omega arith) c.loop.invariant).1

pub returns : goal.returns
returns c =
    let x = c.args.file.now.bytes.now in
    let over : c.loop.counter ≡ c.args.number = omega arith in
    let there = c.loop.invariant ∙ ap (reach (param_end x) c.args.params.from.place) over in
    ap Some c.param_value.ensures
    ∙ (ap (λ (p : ℕ). Some (param_at x p)) there ∙ sym (values_get (param_at x) (param_end x) c.args.params.from.place c.args.params.count c.args.number (omega arith)))
