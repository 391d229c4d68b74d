use Rattle.std.proofs.Common.{arith, ap, length, sym, ◌∙◌, List, ℕ}
use Rattle.lib_model.specs.declared.contents.Constant.{Constant}
use Rattle.lib_model.specs.declared.flags.IfaceFlags.{IfaceFlags}
use Rattle.typelib_faults.specs.Places.{constant_at, constant_end}
use Rattle.typelib_faults.proofs.WalkFacts.{length_values}
use Rattle.descriptor_reader.proofs.MethodLaws.{constants_ended, flags_are}
use Rattle.descriptor_reader.proofs.descriptors.rest_of_descriptor.Goals as goal

pub bounds-file-last : goal.bounds-file-last
bounds-file-last c =
    let k = c.constants_of_descriptor-constants in
    let last = constants_ended c.args.file.now.bytes.now c.args.place k.result.count k.result.from c.constants_behind-last.result c.requires k.ensures.from k.ensures.count c.constants_behind-last.ensures in
    omega (arith, last.0)

pub returns-clause-constants : goal.returns-clause-constants
returns-clause-constants c =
    let x = c.args.file.now.bytes.now in
    let k = c.constants_of_descriptor-constants in
    sym (length_values (constant_at x) (constant_end x) k.result.from.place k.result.count) ∙ ap (λ (ks : List Constant). length ks) k.ensures.are

pub returns-clause-flags : goal.returns-clause-flags
returns-clause-flags c =
    let x = c.args.file.now.bytes.now in
    let k = c.constants_of_descriptor-constants in
    let last = constants_ended x c.args.place k.result.count k.result.from c.constants_behind-last.result c.requires k.ensures.from k.ensures.count c.constants_behind-last.ensures in
    ap (λ (b : ℕ). let f : IfaceFlags = record { bits = b } in f) (flags_are x c.args.place c.constants_behind-last.result.place last.1)
