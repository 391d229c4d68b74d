-- The objects that a call passes through. A forwarder hands each call on to its target, and so on
-- to an object that answers.
use Rattle.std.specs.Prelude.{◌<◌, ℕ, zero, suc, Bool, true, false, List, [], ◌∷◌, count_by, fold, All, Option, Some, None}
use Rattle.std.specs.Option.{option_map_or}
use Rattle.call_model.specs.declared.places.Conv.{Conv}
use Rattle.call_replies.specs.Blocks.{Block, Held, Data, Object, Forwarder}
use Rattle.script_meaning.specs.State.{number_in, object_numbered}

-- an object, and the convention under which it is entered
pub record Stop : Type 0 where
  pub object : Block
  pub conv : Conv

abbrev pub is_forwarder : Held → Bool
is_forwarder (Data bytes) = false
is_forwarder (Object number iface) = false
is_forwarder (Forwarder number iface target own) = true

-- the object that a forwarder hands its calls on to
abbrev pub target_in : List Block → Held → Option Block
target_in blocks (Data bytes) = None
target_in blocks (Object number iface) = None
target_in blocks (Forwarder number iface target own) = object_numbered blocks target

-- the convention of its calls: its own, or else the one under which it was entered
abbrev pub own_or : Option Conv → Conv → Conv
own_or None conv = conv
own_or (Some own) conv = own

abbrev pub conv_behind : Held → Conv → Conv
conv_behind (Data bytes) conv = conv
conv_behind (Object number iface) conv = conv
conv_behind (Forwarder number iface target own) conv = own_or own conv

-- the objects on the way from one that is entered under a convention, itself first, and behind it
-- n others at most
unfoldable pub chain_within : (n : ℕ) → List Block → Conv → Block → List Stop
chain_within zero blocks conv b = record { object = b; conv = conv } ∷ []
chain_within (suc n) blocks conv b =
    record { object = b; conv = conv }
    ∷ option_map_or (chain_within n blocks (conv_behind b.held conv)) (target_in blocks b.held) []

-- all of them: a target has a smaller number than its forwarder
abbrev pub chain_of : List Block → Conv → Block → List Stop
chain_of blocks conv b = chain_within (number_in b.held) blocks conv b

-- the last of them, which answers
abbrev pub answering : Block → List Stop → Block
answering first chain = fold (λ b (s : Stop). s.object) first chain

-- how many forwarders stand on the way, the first object counted
abbrev pub depth : List Stop → ℕ
depth chain = count_by (λ (s : Stop). is_forwarder s.object.held) chain

-- a forwarder has a target of a smaller number
abbrev pub HandsDown : Held → Type 0
HandsDown (Data bytes) = Unit {0}
HandsDown (Object number iface) = Unit {0}
HandsDown (Forwarder number iface target own) = target < number

abbrev pub AllHandDown : List Block → Type 0
AllHandDown blocks = All (λ (b : Block). HandsDown b.held) blocks
