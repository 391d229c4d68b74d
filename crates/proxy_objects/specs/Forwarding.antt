-- Which objects hand their calls on, and how many stand on the way to the one that answers.
use Rattle.std.specs.Prelude.{◌≡◌, ℕ, zero, suc, ◌<◌, ◌≤◌, nat_eq, List, [], ◌∷◌, ◌++◌, Option, Some, None}
use Rattle.std.specs.Map.{lookup}
use Rattle.proxy_objects.specs.declared.forward.Forward.{Forward}
use Rattle.proxy_objects.specs.declared.forwards.TheConstants.{MOST_FORWARDERS}

-- the objects that hand their calls on, by their numbers, in the order in which they were added
abbrev pub Forwarding : Type 0
Forwarding = List (ℕ × Forward)

-- what an object hands its calls on to; None for one that answers them itself
abbrev pub forward_of : Forwarding → (object : ℕ) → Option Forward
forward_of known object = lookup (nat_eq object) known

-- one more object hands its calls on
abbrev pub with_forward : Forwarding → (object : ℕ) → Forward → Forwarding
with_forward known object forward = known ++ (object, forward) ∷ []

-- so many forwarders stand on the way from an object to the one that answers, itself counted
unfoldable pub HasDepth : Forwarding → (object count : ℕ) → Type 0
HasDepth known object zero = forward_of known object ≡ None
HasDepth known object (suc count) =
    (forward : Forward) × (forward_of known object ≡ Some forward)
    × HasDepth known forward.target count

-- every way goes down to smaller numbers, and has no more forwarders than there may be
pub record IsShort (known : Forwarding) : Type 0 where
  pub below : (object : ℕ) (forward : Forward) → forward_of known object ≡ Some forward
      → forward.target < object
  pub few : (object count : ℕ) → HasDepth known object count → count ≤ MOST_FORWARDERS
