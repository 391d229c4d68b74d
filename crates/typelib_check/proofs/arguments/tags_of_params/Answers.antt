use Rattle.std.proofs.Common.{◌+◌, ℕ, Some, arith, refl, subst, sym}
use Rattle.std.proofs.Math.ListN.{set}
use Rattle.typelib_faults.specs.Places.{param_at, param_end}
use Rattle.typelib_faults.specs.Walk.{values}
use Rattle.typelib_faults.proofs.WalkFacts.{step_more}
use Rattle.typelib_check.specs.Parts.{HasTags}
use Rattle.typelib_check.proofs.PartLaws.{no_tags, one_more, param_there}
use Rattle.typelib_check.proofs.arguments.tags_of_params.Goals as goal

pub loop-number-init : goal.loop-number-init
loop-number-init c = record { reached = refl; tags = no_tags }

pub overflow_add-place : goal.overflow_add-place
overflow_add-place c =
    let f = c.args.file.now in
    let there = param_there f.bytes.now c.args.params c.loop-number.number c.loop-number.place c.requires (omega arith) c.loop-number.invariant.reached in
    omega (arith, there.1, f.is_short)

pub known_tag-requires : goal.known_tag-requires
known_tag-requires c =
    (param_there c.args.file.now.bytes.now c.args.params c.loop-number.number c.loop-number.place c.requires (omega arith) c.loop-number.invariant.reached).0

pub param_behind-place-requires-clause-form : goal.param_behind-place-requires-clause-form
param_behind-place-requires-clause-form c =
    (param_there c.args.file.now.bytes.now c.args.params c.loop-number.number c.loop-number.place c.requires (omega arith) c.loop-number.invariant.reached).0

pub param_behind-place-requires-clause-inside : goal.param_behind-place-requires-clause-inside
param_behind-place-requires-clause-inside c =
    (param_there c.args.file.now.bytes.now c.args.params c.loop-number.number c.loop-number.place c.requires (omega arith) c.loop-number.invariant.reached).1

pub loop-number-preserved : goal.loop-number-preserved
loop-number-preserved c =
    let x = c.args.file.now.bytes.now in
    record {
      reached = step_more (param_end x) c.args.params.from.place c.loop-number.place c.param_behind-place.result c.loop-number.number c.loop-number.invariant.reached c.param_behind-place.ensures;
      tags = subst (λ (i : ℕ). HasTags (set c.loop-number.found i (Some c.known_tag.result)) (values (param_at x) (param_end x) c.args.params.from.place (c.loop-number.number + 1))) (sym c.from.ensures) (one_more x c.args.params.from.place c.loop-number.number c.loop-number.place c.known_tag.result c.loop-number.found (omega arith) c.loop-number.invariant.reached c.known_tag.ensures c.loop-number.invariant.tags);
    }
