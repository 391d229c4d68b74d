use Rattle.std.proofs.Common.{◌≡◌, ◌-◌, ◌≤◌}
use Rattle.typelib_faults.specs.Climbs.{meets}
use Rattle.typelib_faults.specs.Places.{entries_of}
use Rattle.typelib_check.proofs.chains.reaches.Given as goal

abbrev pub invariant-loop : goal.invariant-loop
invariant-loop l =
    (meets (entries_of l.file.bytes.now) l.fn.from 251 l.fn.number ≡ meets (entries_of l.file.bytes.now) l.fn.from (251 - l.counter) l.at)
    × (l.at ≤ l.file.count)
