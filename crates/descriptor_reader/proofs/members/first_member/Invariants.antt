use Rattle.typelib_faults.specs.Faults.{method_fault, method_next}
use Rattle.typelib_faults.specs.Places.{method_at, method_end}
use Rattle.descriptor_reader.proofs.LoopLaws.{Fails, IsPast}
use Rattle.descriptor_reader.proofs.SearchLaws.{is_wanted}
use Rattle.descriptor_reader.proofs.members.first_member.Given as goal

-- the methods before are other ones
abbrev pub invariant-loop-slot : goal.invariant-loop-slot
invariant-loop-slot l =
    IsPast (Fails (is_wanted l.kind l.name)) (method_at l.file.bytes.now) (method_end l.file.bytes.now) (method_fault l.file.bytes.now) (method_next l.file.bytes.now) l.fn.methods.from l.fn.methods.count l.at l.slot
