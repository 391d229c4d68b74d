use Rattle.std.proofs.Common.{◌≡◌, ℕ, ◌<◌, false, slice_get}
use Rattle.prototype_lowering.specs.Limits.{is_wide_found}
use Rattle.prototype_lowering.proofs.limits.wide_member.Given as goal

abbrev pub invariant-loop-place : goal.invariant-loop-place
invariant-loop-place l = (m : ℕ) → m < l.place → is_wide_found (slice_get l.members m) ≡ false
