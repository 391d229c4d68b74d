use Rattle.std.proofs.Common.{◌≡◌, ◌-◌, length}
use Rattle.typelib_faults.specs.Faults.{annotations_fault}
use Rattle.typelib_check.proofs.annotations.annotations.Given as goal

abbrev pub invariant-loop : goal.invariant-loop
invariant-loop l =
    annotations_fault l.bytes (length l.bytes) l.fn.from ≡ annotations_fault l.bytes (length l.bytes - l.counter) l.place
