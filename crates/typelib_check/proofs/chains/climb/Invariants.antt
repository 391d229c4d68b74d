use Rattle.typelib_faults.specs.Places.{entries_of}
use Rattle.typelib_faults.proofs.ChainLaws.{IsClimbing}
use Rattle.typelib_check.proofs.chains.climb.Given as goal

abbrev pub invariant-loop : goal.invariant-loop
invariant-loop l =
    IsClimbing (entries_of l.file.bytes.now) 250 l.fn.number l.file.count l.at l.slots l.counter
