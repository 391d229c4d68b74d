use Rattle.std.proofs.Common.{◌≡◌, ℕ, ◌<◌, take, get_or}
use Rattle.call_model.specs.Placement.{place_at}
use Rattle.call_model.specs.declared.places.Loc.TheVariants.{Gpr}
use Rattle.call_model.proofs.frames.passes_at.Given as goal

abbrev pub invariant-loop-i : goal.invariant-loop-i
invariant-loop-i g l =
    g.C.Convention.stands_for l.walk (take l.i l.types) × ((k : ℕ) → k < l.i → get_or l.locations k (Gpr 0) ≡ place_at g.C.Convention.CONV l.types k)
