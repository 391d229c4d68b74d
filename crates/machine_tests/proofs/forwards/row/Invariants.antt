use Rattle.std.proofs.Common.{ℕ, ◌+◌, ◌<◌}
use Rattle.std.specs.Prelude.{IsSome}
use Rattle.proxy_objects.specs.Forwarding.{forward_of}
use Rattle.machine_tests.proofs.forwards.row.Given as goal

-- each object that was added has a number up to that of the next target
abbrev pub invariant-loop-target : goal.invariant-loop-target
invariant-loop-target g l = (added : ℕ) → IsSome (forward_of l.forwards added) → added < l.target + 1
