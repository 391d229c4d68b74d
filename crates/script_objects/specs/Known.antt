-- What is known of the objects among blocks: what is kept of each, by its number, and which of them
-- hand their calls on.
use Rattle.std.specs.Prelude.{◌≡◌, ℕ, ◌<◌, true, List, [], ◌∷◌, ◌++◌, filter, length, map, All, IsSome, Option, Some, None}
use Rattle.std.specs.List.{flat_map}
use Rattle.call_model.specs.declared.places.Conv.{Conv}
use Rattle.call_replies.specs.Blocks.{Block, Held, Data, Object as ObjectHeld, Forwarder}
use Rattle.proxy_objects.specs.declared.forward.Forward.{Forward}
use Rattle.proxy_objects.specs.Forwarding.{Forwarding, forward_of, with_forward}
use Rattle.script_meaning.specs.State.{Name, iface_in, is_object}
use Rattle.script_meaning.specs.Step.{joins}
use Rattle.script_objects.specs.declared.objects.Object.{Object}

pub record ObjectsView : Type 0 where
  pub objects : List Object
  pub forwards : Forwarding

abbrev pub no_objects : ObjectsView
no_objects = record { objects = []; forwards = [] }

-- one object more, which answers its calls
abbrev pub with_object : ObjectsView → (at iface : ℕ) → ObjectsView
with_object known at iface =
    record known { objects = known.objects ++ record { at = at; iface = iface } ∷ [] }

-- one object more, which hands its calls on
abbrev pub with_forwarder : ObjectsView → (at iface target : ℕ) → (own : Option Conv) → ObjectsView
with_forwarder known at iface target own = record {
  objects = known.objects ++ record { at = at; iface = iface } ∷ [];
  forwards =
      with_forward
      known.forwards
      (length known.objects)
      (record { target = target; conv = own });
}

-- an object hands its calls on only once it is there
abbrev pub AreAdded : ObjectsView → Type 0
AreAdded known =
    (object : ℕ) → IsSome (forward_of known.forwards object) → object < length known.objects

-- ---- among blocks

-- what is kept of an object
abbrev pub kept : Block → Object
kept b = record { at = b.at; iface = iface_in b.held }

-- what it hands its calls on to; None where it answers them itself
abbrev pub forward_in : Held → Option Forward
forward_in (Data bytes) = None
forward_in (ObjectHeld number iface) = None
forward_in (Forwarder number iface target own) = Some (record { target = target; conv = own })

-- and the same with its number
abbrev pub numbered_forward : Held → Forwarding
numbered_forward (Data bytes) = []
numbered_forward (ObjectHeld number iface) = []
numbered_forward (Forwarder number iface target own) =
    (number, record { target = target; conv = own }) ∷ []

abbrev pub objects_among : List Block → List Object
objects_among blocks = map kept (filter (λ (b : Block). is_object b.held) blocks)

abbrev pub forwards_among : List Block → Forwarding
forwards_among blocks = flat_map (λ (b : Block). numbered_forward b.held) blocks

-- a convention of a forwarder's own joins that of the machine: both have words of 8 bytes
abbrev pub IsJoined : Conv → Held → Type 0
IsJoined conv (Data bytes) = Unit {0}
IsJoined conv (ObjectHeld number iface) = Unit {0}
IsJoined conv (Forwarder number iface target own) = joins conv own ≡ true

abbrev pub AllJoined : Conv → List Block → Type 0
AllJoined conv blocks = All (λ (b : Block). IsJoined conv b.held) blocks

-- what is known is that of the objects among the blocks of a machine, in the order of their making
pub record AreKnown (conv : Conv) (known : ObjectsView) (blocks : List Block) : Type 0 where
  pub objects : known.objects ≡ objects_among blocks
  pub forwards : known.forwards ≡ forwards_among blocks
  pub joined : AllJoined conv blocks

-- the objects of all blocks that were known are known with one block more, whatever its name is
abbrev pub KnowsMore : (old new : ObjectsView) → (at : ℕ) → Held → Type 0
KnowsMore old new at held =
    (conv : Conv) (blocks : List Block) → AreKnown conv old blocks → IsJoined conv held
    → (name : Name)
    → AreKnown conv new (blocks ++ record { name = name; at = at; held = held } ∷ [])
