use Rattle.std.proofs.Common.{◌≡◌, ◌-◌, ◌^◌, map, min, take}
use Rattle.big_texts.specs.Summary.{sum_on}
use Rattle.big_texts.proofs.summary.sum_on.Given as goal

abbrev pub invariant-loop-line : goal.invariant-loop-line
invariant-loop-line l =
    l.sum ≡ min (sum_on (take l.line-index (map (λ x. x.now) l.lines))) (2 ^ 128 - 1)
