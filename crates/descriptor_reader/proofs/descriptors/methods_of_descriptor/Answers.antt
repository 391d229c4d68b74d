use Rattle.std.proofs.Common.{arith, ap, sym, ◌+◌, ◌∙◌, ℕ}
use Rattle.typelib_faults.specs.Faults.{method_fault, method_next}
use Rattle.typelib_faults.specs.Places.{method_at, method_end}
use Rattle.typelib_faults.specs.Walk.{values, walk}
use Rattle.descriptor_reader.specs.Views.{first_at}
use Rattle.descriptor_reader.proofs.MethodLaws.{descriptor_parts, methods_are}
use Rattle.descriptor_reader.proofs.descriptors.methods_of_descriptor.Goals as goal

pub overflow_add-place : goal.overflow_add-place
overflow_add-place c =
    let f = c.args.file.now in
    let k = descriptor_parts f.bytes.now (first_at c.args.place) c.requires in
    omega (arith, k.inside, f.is_short)

pub overflow_add-from : goal.overflow_add-from
overflow_add-from c =
    let f = c.args.file.now in
    let k = descriptor_parts f.bytes.now (first_at c.args.place) c.requires in
    omega (arith, k.inside, f.is_short)

pub half-count-requires : goal.half-count-requires
half-count-requires c =
    let k = descriptor_parts c.args.file.now.bytes.now (first_at c.args.place) c.requires in
    omega (arith, k.inside)

pub returns-clause-fine : goal.returns-clause-fine
returns-clause-fine c =
    let x = c.args.file.now.bytes.now in
    let k = descriptor_parts x (first_at c.args.place) c.requires in
    ap (λ (n : ℕ). walk (method_fault x) (method_next x) (first_at (c.args.place + 4)) n) c.half-count.ensures ∙ k.methods

pub returns-clause-are : goal.returns-clause-are
returns-clause-are c =
    let x = c.args.file.now.bytes.now in
    ap (λ (n : ℕ). values (method_at x) (method_end x) (c.args.place + 4) n) c.half-count.ensures ∙ sym (methods_are x c.args.place)
