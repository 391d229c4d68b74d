use Rattle.std.proofs.Common.{ℕ, ◌+◌}
use Rattle.typelib_faults.specs.Faults.{chain_fault}
use Rattle.typelib_faults.specs.Places.{count_of, entries_of}
use Rattle.typelib_faults.proofs.WalkFacts.{Left}
use Rattle.typelib_check.proofs.chains.chains.Given as goal

abbrev pub invariant-loop-before : goal.invariant-loop-before
invariant-loop-before l =
    Left (chain_fault l.file.bytes.now (entries_of l.file.bytes.now)) (λ (k : ℕ). k + 1) 1 (count_of l.file.bytes.now) (l.before + 1) l.before
