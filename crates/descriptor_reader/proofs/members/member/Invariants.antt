use Rattle.typelib_faults.specs.Places.{entries_of}
use Rattle.descriptor_reader.proofs.SearchLaws.{IsSearching}
use Rattle.descriptor_reader.proofs.members.member.Given as goal

abbrev pub invariant-loop : goal.invariant-loop
invariant-loop l =
    IsSearching l.kind l.name (entries_of l.checked.file.bytes.now) 250 l.fn.number l.checked.file.count l.at l.end l.counter
