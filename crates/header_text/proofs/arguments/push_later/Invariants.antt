use Rattle.std.proofs.Common.{◌≡◌, ◌++◌, ◌+◌, codes, drop, map}
use Rattle.std.specs.List.{enumerate_from, flat_map}
use Rattle.header_text.specs.Header.{argument_text}
use Rattle.header_text.proofs.arguments.push_later.Given as goal

-- what is written and what is left are all
abbrev pub invariant-loop-k : goal.invariant-loop-k
invariant-loop-k l =
    l.text
    ++ flat_map (λ v. codes ", " ++ v)
    (map argument_text (enumerate_from (l.k + 1) (drop l.k l.later)))
    ≡ l.fn.text
    ++ flat_map (λ v. codes ", " ++ v) (map argument_text (enumerate_from 1 l.later))
