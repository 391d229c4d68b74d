use Rattle.std.proofs.Common.{ℕ, ◌+◌, ◌≤◌}
use Rattle.proxy_objects.specs.Forwarding.{HasDepth}
use Rattle.proxy_objects.proofs.forwards.Forwards.depth.Given as goal

-- the rest of the way completes the one from the object, and each step goes down
abbrev pub invariant-loop-forward : goal.invariant-loop-forward
invariant-loop-forward l = record {
  way : (rest : ℕ) → HasDepth l.self-inside.by_object.entries l.at rest → HasDepth l.self-inside.by_object.entries l.object (l.count + rest);
  down : l.count + l.at ≤ l.object;
}

abbrev pub decreases-loop-forward : goal.decreases-loop-forward
decreases-loop-forward l = l.at
