use Rattle.std.proofs.Common.{◌≤◌, length}
use Rattle.prototype_lowering.proofs.Numbered.{IsFilled}
use Rattle.prototype_lowering.proofs.numbering.write_numbers.Given as goal

abbrev pub invariant-loop-place : goal.invariant-loop-place
invariant-loop-place l = record {
  filled : IsFilled l.order l.numbers l.place;
  within : l.place ≤ length l.order;
}

abbrev pub decreases-loop-place : goal.decreases-loop-place
decreases-loop-place l = l.place
