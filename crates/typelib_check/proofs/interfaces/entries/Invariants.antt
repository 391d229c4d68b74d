use Rattle.std.proofs.Common.{◌≡◌, ◌+◌, ◌*◌}
use Rattle.typelib_faults.specs.Faults.{directory_cursor, entry_fault, entry_next}
use Rattle.typelib_faults.specs.Places.{count_of}
use Rattle.typelib_faults.proofs.WalkFacts.{Left}
use Rattle.typelib_check.proofs.interfaces.entries.Given as goal

abbrev pub invariant-loop : goal.invariant-loop
invariant-loop l =
    Left (entry_fault l.file.bytes.now) (entry_next l.file.bytes.now) (directory_cursor l.file.bytes.now) (count_of l.file.bytes.now) l.at l.counter
    × (l.at.place ≡ l.file.directory + 28 * l.counter)
