use Rattle.std.proofs.Common.{subst, sym}
use Rattle.proxy_objects.specs.Forwarding.{IsShort}
use Rattle.proxy_objects.proofs.Ways.{nothing-is-short}
use Rattle.proxy_objects.proofs.forwards.Forwards.new.Goals as goal

pub invariant_of-result : goal.invariant_of-result
invariant_of-result c = subst IsShort (sym c.new.ensures.empty) nothing-is-short
