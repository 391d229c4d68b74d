use Rattle.std.proofs.Common.{None, Some, ◌+◌, ap, arith, sym, ◌∙◌, ◌≡◌}
use Rattle.std.proofs.lemmas.Result.{err_from_is_err_and}
use Rattle.lib_model.specs.declared.param_types.Param.{Param}
use Rattle.typelib_faults.specs.declared.cursor.Cursor.{Cursor}
use Rattle.typelib_faults.specs.Faults.{args_fault, param_fault, param_next, type_args_fault}
use Rattle.typelib_faults.specs.Places.{param_at, param_end}
use Rattle.typelib_faults.specs.Walk.{values}
use Rattle.typelib_faults.proofs.WalkFacts.{left_next, part_fine, step_more}
use Rattle.typelib_check.proofs.PartLaws.{left_bad, none_walked}
use Rattle.typelib_check.proofs.arguments.arguments.Goals as goal

pub known_param-requires : goal.known_param-requires
known_param-requires c =
    let x = c.args.file.now.bytes.now in
    part_fine (param_fault x) (param_next x) c.args.params.from c.loop.at c.args.params.count c.loop.counter c.requires (omega arith) c.loop.invariant.0

pub loop-preserved : goal.loop-preserved
loop-preserved c =
    let x = c.args.file.now.bytes.now in
    let all = values (param_at x) (param_end x) c.args.params.from.place c.args.params.count in
    let found : c.known_param.result.0 ≡ param_at x c.loop.at.place = ap (λ (p : Param × Cursor). p.0) c.known_param.ensures.is in
    let next : c.known_param.result.1 ≡ param_next x c.loop.at = ap (λ (p : Param × Cursor). p.1) c.known_param.ensures.is in
    let fine : args_fault x all c.loop.at.place ≡ None = ap (λ (p : Param). type_args_fault all (c.loop.at.place + 1) p.ty) (sym found) ∙ c.in_ok-type_args.ensures all c.tags_of_params-found_tags.ensures in
    (step_more (param_next x) c.args.params.from c.loop.at c.known_param.result.1 c.loop.counter c.loop.invariant.0 next, left_next (args_fault x all) (param_end x) _ c.loop.invariant.1 c.loop-test.true fine (ap (λ (s : Cursor). s.place) next))

pub returns-in_err-type_args : goal.returns-in_err-type_args
returns-in_err-type_args c =
    let x = c.args.file.now.bytes.now in
    let all = values (param_at x) (param_end x) c.args.params.from.place c.args.params.count in
    let r = err_from_is_err_and c.from_residual.result c.from_residual.ensures.1 in
    let e = c.in_err-type_args.ensures all c.tags_of_params-found_tags.ensures in
    let found : c.known_param.result.0 ≡ param_at x c.loop.at.place = ap (λ (p : Param × Cursor). p.0) c.known_param.ensures.is in
    let bad : args_fault x all c.loop.at.place ≡ Some r.0 = ap (λ (p : Param). type_args_fault all (c.loop.at.place + 1) p.ty) (sym found) ∙ (e ∙ ap Some (sym r.2)) in
    rw r.1 (left_bad (args_fault x all) (param_end x) r.0 c.loop.invariant.1 c.loop-test.true bad)

pub returns-then-params-eq0 : goal.returns-then-params-eq0
returns-then-params-eq0 c =
    let x = c.args.file.now.bytes.now in
    none_walked (args_fault x (values (param_at x) (param_end x) c.args.params.from.place c.args.params.count)) (param_end x) c.args.params.from.place c.args.params.count c.if-params-eq0.true
