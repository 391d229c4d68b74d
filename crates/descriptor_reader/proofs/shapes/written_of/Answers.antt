use Rattle.std.proofs.Common.{false, true, arith, sym, ◌∙◌, ◌-◌}
use Rattle.typelib_faults.specs.Faults.{param_fault, param_next}
use Rattle.typelib_check.proofs.PartLaws.{param_there}
use Rattle.descriptor_reader.proofs.PrototypeLaws.{walk_front, written_is}
use Rattle.descriptor_reader.proofs.shapes.written_of.Goals as goal

pub params_behind-last-requires : goal.params_behind-last-requires
params_behind-last-requires c =
    let x = c.args.file.now.bytes.now in
    walk_front (param_fault x) (param_next x) c.args.params.from c.args.params.count (c.args.params.count - 1) c.requires (omega arith)

pub bounds-file-last : goal.bounds-file-last
bounds-file-last c =
    (param_there c.args.file.now.bytes.now c.args.params (c.args.params.count - 1) c.params_behind-last.result c.requires (omega arith) c.params_behind-last.ensures).1

pub returns-then-contains-clause-is : goal.returns-then-contains-clause-is
returns-then-contains-clause-is c =
    let a = c.args.params in
    sym (written_is c.args.file.now.bytes.now a.from.place a.count c.params_behind-last.result true c.if-params-eq0.false c.params_behind-last.ensures (sym (c.contains.ensures tt) ∙ c.if-contains.true))

pub returns-else-contains-clause-is : goal.returns-else-contains-clause-is
returns-else-contains-clause-is c =
    let a = c.args.params in
    sym (written_is c.args.file.now.bytes.now a.from.place a.count c.params_behind-last.result false c.if-params-eq0.false c.params_behind-last.ensures (sym (c.contains.ensures tt) ∙ c.if-contains.false))
