use Rattle.typelib_faults.specs.Places.{entries_of}
use Rattle.descriptor_reader.proofs.SearchLaws.{IsSeeking}
use Rattle.descriptor_reader.proofs.members.method_in_slot.Given as goal

abbrev pub invariant-loop : goal.invariant-loop
invariant-loop l =
    IsSeeking (entries_of l.checked.file.bytes.now) 250 l.fn.number l.checked.file.count l.slot l.at l.end l.counter
