-- A machine that is about to enter a forwarder, and what the forwarder leaves.
use Rattle.std.proofs.Common.{◌≡◌, ◌∙◌, ℕ, ◌==◌, ◌&&◌, Bool, true, List, ◌∷◌, ◌++◌, length, is_some, option_and_then, Some, Result, Ok, IfOk, ap, refl, sym, subst}
use Rattle.std.specs.List.{Contains}
use Rattle.std.specs.Prelude.{unwrap_or}
use Rattle.std.proofs.lemmas.Bool.{eq-eqb}
use Rattle.std.proofs.lemmas.List.{append_assoc}
use Rattle.std.proofs.lemmas.Option.{get_or_from_slice_get, slice_get_within}
use Rattle.call_model.specs.declared.places.Conv.{Conv}
use Rattle.call_model.specs.Placement.{word_of}
use Rattle.call_model.specs.Prototype.{types_of}
use Rattle.call_model.specs.Values.{placed}
use Rattle.descriptor_reader.specs.Views.{MethodOf}
use Rattle.invoke_by_index.specs.Methods.{prototype}
use Rattle.object_memory.specs.Layout.{entry_of}
use Rattle.object_memory.specs.Lends.{with_frame}
use Rattle.object_memory.specs.Memory.{MachineView, entry_at}
use Rattle.object_memory.proofs.Entries.{entry_is}
use Rattle.proxy_objects.specs.declared.forward.Forward.{Forward}
use Rattle.proxy_objects.specs.Forwarding.{forward_of}
use Rattle.script_calls.specs.Forwarders.{ForwarderView, HandsCallOn, Reacts, can_hand_on, new_forwarder}
use Rattle.stub_dispatch.specs.Calls.{AreCanonical, Call, IsObject, call_by}
use Rattle.call_replies.specs.Blocks.{Block, contents}
use Rattle.call_replies.proofs.OwnCells.{holds_blocks-beside}
use Rattle.transcript_text.specs.Texts.{frame_text, slot_text}
use Rattle.script_meaning.specs.Calls.{frame_to, got_text}
use Rattle.script_objects.specs.Known.{ObjectsView, forward_in}
use Rattle.script_objects.proofs.Among.{forward-is, objects-stand}
use Rattle.script_chains.specs.declared.links.Link.{Link}
use Rattle.script_chains.specs.declared.visit.Visit.{Visit}
use Rattle.script_chains.specs.Links.{HandsValuesOn}
use Rattle.script_chains.specs.Passing.{IsAt, IsHandedOn}
use Rattle.script_chains.proofs.Frames.{frame-enough, frame-receives, frame-this, object-low, word-behind}
use Rattle.script_chains.proofs.Ways.{Target, target-of}

-- ---- objects

-- an object of a machine is among its objects
pub is-among : (m : MachineView) (address number : ℕ) → IsObject m address number
    → Contains m.objects address
is-among m address number is = (
  number,
  slice_get_within m.objects number address is,
  get_or_from_slice_get m.objects number address address is,
)

all-three : (a b c : Bool) → a ≡ true → b ≡ true → c ≡ true → (a && b && c) ≡ true
all-three a b c p q r = λ i. p i && q i && r i

-- what is true of an answer
pub at-ok : {A E : Type 0} (P : A → Type 0) (r : Result A E) (v : A) → r ≡ Ok v → IfOk r P → P v
at-ok P r v is has = subst (λ r. IfOk r P) is has

three-more : (a b c d : List ℕ) → a ++ b ++ c ++ d ≡ a ++ (b ++ c ++ d)
three-more a b c d = ap (λ l. l ++ d) (append_assoc a b c) ∙ append_assoc a (b ++ c) d

module _ (m : MachineView) (objects : ObjectsView) (method : MethodOf) (visit : Visit)
    (blocks : List Block) (b : Block) (values : List ℕ)
    (at : IsAt m objects method visit blocks b values) where
  pub is-object : IsObject m b.at visit.number
  is-object = objects-stand m blocks at.holds at.lawful visit.number b at.object

  pub known-forward : forward_of objects.forwards visit.number ≡ forward_in b.held
  known-forward =
      ap (λ known. forward_of known visit.number) at.known.forwards
      ∙ forward-is blocks at.lawful.numbered visit.number
      ∙ ap (option_and_then (λ b. forward_in b.held)) at.object

  module _ (forward : Forward) (forward_is : forward_of objects.forwards visit.number ≡ Some forward) where
    pub target : Target blocks b forward
    target = target-of m.conv blocks at.lawful visit.number b at.object forward (sym known-forward ∙ forward_is)

    abbrev pub next_conv : Conv
    next_conv = unwrap_or forward.conv visit.conv

    word : word_of next_conv ≡ word_of m.conv
    word = ap word_of (target.conv visit.conv) ∙ word-behind m.conv blocks at.known.joined visit.number b at.object visit.conv at.word

    pub target-object : IsObject m target.block.at forward.target
    target-object = objects-stand m blocks at.holds at.lawful forward.target target.block target.object

    pub target-entry : entry_at m target.block.at method.slot ≡ Some (entry_of method.slot)
    target-entry = entry_is m (contents blocks) target.block.at method.slot at.holds.heap (is-among m target.block.at forward.target target-object) at.slot

    -- the call that was received can be handed on
    pub can : (call : Call) (positions : ℕ) → call.slot ≡ method.slot → length call.proto ≡ positions
        → can_hand_on (new_forwarder next_conv target.block.at positions) m call ≡ true
    can call positions slot count =
        all-three (length call.proto == positions) (word_of next_conv == word_of m.conv) (is_some (entry_at m target.block.at call.slot))
        (eq-eqb (length call.proto) positions count)
        (eq-eqb (word_of next_conv) (word_of m.conv) word)
        (ap is_some (ap (entry_at m target.block.at) slot ∙ target-entry))

    -- the target is entered next
    pub next-at : (entry : ℕ) → AreCanonical m.conv (prototype method) values
        → entry_at m target.block.at method.slot ≡ Some entry
        → IsAt
        (with_frame m (frame_to next_conv (prototype method) target.block values))
        objects
        method
        (record { number = forward.target; conv = next_conv; entry = entry })
        blocks
        target.block
        values
    next-at entry canonical loads =
        let low = object-low m.conv blocks at.lawful forward.target target.block target.object in
        record {
          lawful = at.lawful;
          holds = holds_blocks-beside m blocks m.cells (frame_to next_conv (prototype method) target.block values) at.holds;
          known = at.known;
          object = target.object;
          slot = at.slot;
          word = word;
          this = frame-this m.conv next_conv (prototype method) target.block.at values (sym word) low canonical;
          entry = loads;
          enough = frame-enough m.conv next_conv (prototype method) target.block.at values (sym word) low canonical;
          receives = frame-receives m.conv next_conv (prototype method) target.block.at values (sym word) low canonical;
        }

    -- what the link leaves
    module _ (link link_after : Link) (after : MachineView) (answer positions : ℕ)
        (fresh : link.forwarder ≡ new_forwarder next_conv target.block.at positions)
        (count : length (prototype method) ≡ positions)
        (handed : HandsValuesOn link m (call_by visit.conv m.frame method visit.number) link_after after answer) where
      abbrev call : Call
      call = call_by visit.conv m.frame method visit.number

      hands : HandsCallOn (new_forwarder next_conv target.block.at positions) m call link_after.forwarder after answer
      hands =
          (subst (λ (f : ForwarderView). Reacts f m call link_after.forwarder after answer) fresh handed.reacts).hands_on
          (can call positions refl count)

      pub left-received : link_after.forwarder.received ≡ values
      left-received = ap (λ (f : ForwarderView). f.received) hands.keeps ∙ at.receives

      pub left-frame : after ≡ with_frame m (frame_to next_conv (prototype method) target.block values)
      left-frame =
          hands.begins
          ∙ ap (λ cells. with_frame m (placed next_conv (types_of (prototype method)) (target.block.at ∷ cells))) at.receives

      pub left-at : IsAt
          after
          objects
          method
          (record { number = forward.target; conv = next_conv; entry = link_after.forwarder.entry })
          blocks
          target.block
          values
      left-at =
          subst (λ k. IsAt k objects method (record { number = forward.target; conv = next_conv; entry = link_after.forwarder.entry }) blocks target.block values)
          (sym left-frame)
          (next-at link_after.forwarder.entry (subst (AreCanonical m.conv (prototype method)) at.receives handed.canonical) hands.loads)

      pub left-handed : (told tells : List ℕ)
          → tells ≡ told ++ got_text (prototype method) values ++ slot_text method.slot ++ frame_text next_conv after.frame
          → IsHandedOn m after objects method visit
          (record { number = forward.target; conv = next_conv; entry = link_after.forwarder.entry })
          blocks b values told tells
      left-handed told tells is = record {
        target = target.block;
        is = target.is;
        conv = target.conv visit.conv;
        frame = left-frame;
        at = left-at;
        text = is
            ∙ ap (λ (k : MachineView). told ++ got_text (prototype method) values ++ slot_text method.slot ++ frame_text next_conv k.frame) left-frame
            ∙ three-more told (got_text (prototype method) values) (slot_text method.slot)
            (frame_text next_conv (frame_to next_conv (prototype method) target.block values));
      }
