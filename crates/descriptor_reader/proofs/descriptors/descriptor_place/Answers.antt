use Rattle.std.proofs.Common.{arith, sym}
use Rattle.descriptor_reader.proofs.MethodLaws.{descriptor_known, resolved_body, unresolved_body}
use Rattle.descriptor_reader.proofs.descriptors.descriptor_place.Goals as goal

pub returns-then-offset-eq0-clause-body : goal.returns-then-offset-eq0-clause-body
returns-then-offset-eq0-clause-body c =
    let f = c.args.checked.now.file in
    sym (unresolved_body f.bytes.now f.directory c.args.number c.word-offset.result c.place_of_entry.result f.directory_is c.requires.above (omega (arith, f.count_is, c.requires.below)) c.place_of_entry.ensures c.word-offset.ensures c.if-offset-eq0.true)

pub returns-clause-fine : goal.returns-clause-fine
returns-clause-fine c =
    let f = c.args.checked.now.file in
    descriptor_known f.bytes.now f.directory c.args.number c.word-offset.result c.place_of_entry.result c.place_of_offset.result c.args.checked.now.are_bytes c.args.checked.now.is_fine f.directory_is c.requires.above (omega (arith, f.count_is, c.requires.below)) c.place_of_entry.ensures c.word-offset.ensures c.if-offset-eq0.false c.place_of_offset.ensures

pub returns-clause-body : goal.returns-clause-body
returns-clause-body c =
    let f = c.args.checked.now.file in
    sym (resolved_body f.bytes.now f.directory c.args.number c.word-offset.result c.place_of_entry.result c.place_of_offset.result f.directory_is c.requires.above (omega (arith, f.count_is, c.requires.below)) c.place_of_entry.ensures c.word-offset.ensures c.if-offset-eq0.false c.place_of_offset.ensures)
