use Rattle.std.proofs.Common.{ℕ, List}
use Rattle.call_replies.specs.Blocks.{Block}
use Rattle.script_chains.specs.Passing.{IsAt}
use Rattle.script_chains.proofs.Passed.{Resumes}
use Rattle.script_chains.proofs.passing.pass_on.Given as goal

-- what remains makes the whole, with what was done so far
abbrev pub invariant-way : goal.invariant-way
invariant-way g l =
    (blocks : List Block) (b : Block) (values : List ℕ)
    → IsAt l.fn.machine l.objects l.method l.fn.visit blocks b values
    → Resumes l.fn.machine l.machine l.objects l.method l.fn.visit l.visit blocks b values
    l.fn.text l.text (g.B.Bench.seen l.fn.bench) (g.B.Bench.seen l.bench)

-- a target has a smaller number
abbrev pub decreases-way : goal.decreases-way
decreases-way g l = l.visit.number
