use Rattle.std.proofs.Common.{◌≡◌, ℕ, ◌<◌, false}
use Rattle.prototype_lowering.specs.Limits.{is_wide_at}
use Rattle.prototype_lowering.proofs.limits.find_wide.Given as goal

abbrev pub invariant-loop-k : goal.invariant-loop-k
invariant-loop-k l = (j : ℕ) → j < l.k → (m : ℕ) → is_wide_at l.ifaces j m ≡ false
