-- What a call of a forwarder does, from what its parts do.
use Rattle.std.proofs.Common.{◌≡◌, ℕ, ◌∷◌, Bool, true, false, ◌&&◌, eqb, length, Some, refl, sym, subst, ap, ◌∙◌, arith}
use Rattle.std.specs.Prelude.{IsSome, is_some}
use Rattle.std.proofs.lemmas.Bool.{false≢true, true≢false}
use Rattle.std.proofs.lemmas.Grind.{common_steps}
use Rattle.call_model.specs.declared.places.Conv.{Conv}
use Rattle.call_model.specs.Placement.{word_of}
use Rattle.call_model.specs.Prototype.{types_of}
use Rattle.call_model.specs.Values.{placed}
use Rattle.object_memory.specs.Lends.{with_frame}
use Rattle.object_memory.specs.Memory.{MachineView, entry_at}
use Rattle.proxy_objects.specs.Handing.{HandsOn}
use Rattle.stub_dispatch.specs.Calls.{Call}
use Rattle.script_calls.specs.Forwarders.{ForwarderView, HandsCallOn, Reacts, can_hand_on, invalid_pointer}

both : (a b : Bool) → (a && b) ≡ true → (a ≡ true) × (b ≡ true)
both true true h = (refl, refl)
both true false h = absurd (false≢true h)
both false b h = absurd (false≢true h)

-- a call that can be handed on has the forwarder's number of arguments, and leads to an entry
pub positions-and-entry : (forwarder : ForwarderView) (m : MachineView) (call : Call) → can_hand_on forwarder m call ≡ true
    → (length call.proto ≡ forwarder.positions) × IsSome (entry_at m forwarder.target call.slot)
positions-and-entry forwarder m call can =
    let count = eqb (length call.proto) forwarder.positions in let word = eqb (word_of forwarder.conv) (word_of m.conv) in
    let outer = both (count && word) (is_some (entry_at m forwarder.target call.slot)) can in
    let same : eqb (length call.proto) forwarder.positions ≡ true = (both count word outer.0).0 in
    (grind (arith, common_steps), outer.1)

pub reacts-refused : (forwarder : ForwarderView) (m : MachineView) (call : Call) → can_hand_on forwarder m call ≡ false
    → Reacts forwarder m call forwarder m invalid_pointer
reacts-refused forwarder m call cannot = record {
  hands_on = λ can. absurd (true≢false (sym can ∙ cannot));
  refuses = λ _. (refl, refl, refl);
  frame_alone = refl;
}

pub reacts-handed : (forwarder : ForwarderView) (m : MachineView) (call : Call) (after : ForwarderView) (left : MachineView) (answer : ℕ)
    → can_hand_on forwarder m call ≡ true → HandsCallOn forwarder m call after left answer → Reacts forwarder m call after left answer
reacts-handed forwarder m call after left answer can handed = record {
  hands_on = λ _. handed;
  refuses = λ cannot. absurd (true≢false (sym can ∙ cannot));
  frame_alone = handed.begins ∙ ap (with_frame m) (sym (ap (λ (k : MachineView). k.frame) handed.begins));
}

-- the call that begins, where the convention and the target are those of the forwarder
pub hands-call-on : (forwarder : ForwarderView) (m : MachineView) (call : Call) (after : ForwarderView) (left : MachineView)
    (conv : Conv) (target entry : ℕ) → conv ≡ forwarder.conv → target ≡ forwarder.target
    → left ≡ with_frame m (placed conv (types_of call.proto) (target ∷ call.cells))
    → HandsOn conv call.proto target call.cells left.frame
    → entry_at m target call.slot ≡ Some entry
    → after ≡ record forwarder { received = call.cells; entry = entry }
    → HandsCallOn forwarder m call after left 0
hands-call-on forwarder m call after left conv target entry conv_is target_is begins values loads keeps =
    let kept : after.entry ≡ entry = ap (λ (f : ForwarderView). f.entry) keeps in record {
      begins = begins ∙ (λ i. with_frame m (placed (conv_is i) (types_of call.proto) (target_is i ∷ call.cells)));
      values = subst (λ t. HandsOn forwarder.conv call.proto t call.cells left.frame) target_is
          (subst (λ k. HandsOn k call.proto target call.cells left.frame) conv_is values);
      loads = ap (λ t. entry_at m t call.slot) (sym target_is) ∙ loads ∙ ap Some (sym kept);
      keeps = keeps ∙ ap (λ e. record forwarder { received = call.cells; entry = e }) (sym kept);
      answers = refl;
    }
