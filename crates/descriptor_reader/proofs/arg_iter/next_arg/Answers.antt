use Rattle.std.proofs.Common.{Some, ap, sym, ◌∙◌, ◌+◌}
use Rattle.std.specs.Prelude.{option_map}
use Rattle.lib_model.specs.Table.{arg_of}
use Rattle.typelib_faults.specs.Places.{method_at, param_end}
use Rattle.typelib_faults.specs.Walk.{reach}
use Rattle.typelib_faults.proofs.WalkFacts.{step_more}
use Rattle.descriptor_reader.proofs.ArgLaws.{arg_there}
use Rattle.descriptor_reader.proofs.arg_iter.next_arg.Goals as goal

pub param_value-param-requires-clause-form : goal.param_value-param-requires-clause-form
param_value-param-requires-clause-form c =
    (arg_there c.args.file.now.bytes.now c.args.method c.args.shape c.args.position c.args.place c.in-OfParam.field-0 c.requires.at c.requires.low (c.in-OfParam.ensures.stands (method_at c.args.file.now.bytes.now c.args.method.place) c.requires.at.shape) c.in-OfParam.ensures.next.0).0

pub param_value-param-requires-clause-inside : goal.param_value-param-requires-clause-inside
param_value-param-requires-clause-inside c =
    (arg_there c.args.file.now.bytes.now c.args.method c.args.shape c.args.position c.args.place c.in-OfParam.field-0 c.requires.at c.requires.low (c.in-OfParam.ensures.stands (method_at c.args.file.now.bytes.now c.args.method.place) c.requires.at.shape) c.in-OfParam.ensures.next.0).1

pub param_behind-requires-clause-form : goal.param_behind-requires-clause-form
param_behind-requires-clause-form c =
    (arg_there c.args.file.now.bytes.now c.args.method c.args.shape c.args.position c.args.place c.in-OfParam.field-0 c.requires.at c.requires.low (c.in-OfParam.ensures.stands (method_at c.args.file.now.bytes.now c.args.method.place) c.requires.at.shape) c.in-OfParam.ensures.next.0).0

pub param_behind-requires-clause-inside : goal.param_behind-requires-clause-inside
param_behind-requires-clause-inside c =
    (arg_there c.args.file.now.bytes.now c.args.method c.args.shape c.args.position c.args.place c.in-OfParam.field-0 c.requires.at c.requires.low (c.in-OfParam.ensures.stands (method_at c.args.file.now.bytes.now c.args.method.place) c.requires.at.shape) c.in-OfParam.ensures.next.0).1

pub returns-in-OfParam-clause-arg : goal.returns-in-OfParam-clause-arg
returns-in-OfParam-clause-arg c =
    let x = c.args.file.now.bytes.now in
    let m = method_at x c.args.method.place in
    let shape = c.requires.at.shape in
    let stands = c.in-OfParam.ensures.stands m shape in
    let there = arg_there x c.args.method c.args.shape c.args.position c.args.place c.in-OfParam.field-0 c.requires.at c.requires.low stands c.in-OfParam.ensures.next.0 in
    stands ∙ (ap (option_map (arg_of m)) there.2 ∙ ap Some (sym (c.arg_of.ensures m shape ∙ ap (arg_of m) c.param_value-param.ensures)))

pub returns-in-OfParam-clause-place : goal.returns-in-OfParam-clause-place
returns-in-OfParam-clause-place c =
    let x = c.args.file.now.bytes.now in
    let at = c.requires.at in
    let from = c.args.method.place + 6 in
    let next = c.in-OfParam.ensures.next in
    record {
      fine = at.fine;
      shape = at.shape;
      few = at.few;
      reached = step_more (param_end x) from c.args.place c.param_behind.result c.in-OfParam.field-0 (at.reached ∙ ap (reach (param_end x) from) next.0) c.param_behind.ensures ∙ ap (reach (param_end x) from) (sym next.1);
    }
