use Rattle.std.proofs.Common.{arith}
use Rattle.descriptor_reader.proofs.ViewLaws.{directory_known, slots_any}
use Rattle.descriptor_reader.proofs.slots.end_of_slots.Goals as goal

pub climb-slots-requires-clause-fine : goal.climb-slots-requires-clause-fine
climb-slots-requires-clause-fine c = directory_known c.args.checked.now.file.bytes.now c.args.checked.now.is_fine

pub overflow_cast-result : goal.overflow_cast-result
overflow_cast-result c =
    let f = c.args.checked.now.file in
    let k = slots_any f.bytes.now c.args.number c.args.checked.now.is_fine (omega (arith, f.count_is, c.requires)) in
    omega (arith, k.1, c.climb-slots.ensures.slots)
