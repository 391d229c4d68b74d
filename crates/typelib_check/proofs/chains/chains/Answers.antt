use Rattle.std.proofs.Common.{ℕ, ◌+◌, arith, refl}
use Rattle.typelib_faults.specs.Faults.{chain_fault}
use Rattle.typelib_faults.specs.Places.{entries_of}
use Rattle.typelib_faults.proofs.WalkFacts.{left_next}
use Rattle.typelib_check.proofs.chains.chains.Goals as goal

pub loop-before-preserved : goal.loop-before-preserved
loop-before-preserved c =
    let x = c.args.file.now.bytes.now in
    left_next (chain_fault x (entries_of x)) (λ (k : ℕ). k + 1) _ c.loop-before.invariant (omega (arith, c.args.file.now.count_is)) c.in_ok-chain.ensures refl
