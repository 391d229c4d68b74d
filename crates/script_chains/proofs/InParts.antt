-- A call that has begun, as its parts see it: from the first object, whose convention is the
-- machine's, to the reply.
use Rattle.std.proofs.Common.{◌≡◌, ◌∙◌, ℕ, List, [], ◌∷◌, ◌++◌, Result, Ok, Err, IfErr, ap, sym, subst}
use Rattle.call_model.specs.declared.places.Conv.{Conv}
use Rattle.descriptor_reader.specs.Views.{MethodOf}
use Rattle.machine_bench.specs.Seen.{Saw, SawNothing, SawPrefix, sight_of}
use Rattle.object_memory.specs.Memory.{MachineView}
use Rattle.script_meaning.specs.Calls.{Call, call_sights, values_received}
use Rattle.script_meaning.specs.Chain.{answering}
use Rattle.script_meaning.specs.State.{State}
use Rattle.script_objects.specs.declared.rules.Rules.{Rules}
use Rattle.script_objects.specs.Known.{ObjectsView}
use Rattle.script_chains.specs.declared.begun.Answered.{Answered}
use Rattle.script_chains.specs.declared.begun.Begun.{Begun}
use Rattle.script_chains.specs.declared.visit.Visit.{Visit}
use Rattle.script_chains.specs.Answers.{HasBegun, IsAnswered, call_on}
use Rattle.script_chains.specs.Passing.{IsAt, IsPassedOn, behind, sights_of}
use Rattle.script_chains.specs.Replying.{CanReply, HasReplied}
use Rattle.script_chains.proofs.Passed.{Told}
use Rattle.script_chains.proofs.Whole.{begins, can-reply, is-answered, last_sight, saw-all, saw-no-more, saw-prefix-more, saw-so-far, sights-are}

-- what is true whatever an error is
pub of-err : {A E : Type 0} (r : Result A E) (Q : Type 0) → Q → IfErr r (λ _. Q)
of-err (Ok v) Q q = tt
of-err (Err e) Q q = q

module _ (m : MachineView) (objects : ObjectsView) (rules : Rules) (begun : Begun) (method : MethodOf)
    (state : State) (call : Call) (has : HasBegun m objects rules begun method state call)
    (conv : Conv) (same : conv ≡ m.conv) where
  abbrev here : Call
  here = call_on m begun method call.object call.cells

  has-here : HasBegun m objects rules begun method state here
  has-here = subst (HasBegun m objects rules begun method state) has.call_is has

  abbrev values : List ℕ
  values = values_received m.conv here

  abbrev under : Conv → Visit
  under k = record { number = begun.number; conv = k; entry = begun.entry }

  pub first-at : IsAt m objects method (under conv) state.blocks call.object values
  first-at =
      subst (λ k. IsAt m objects method (under k) state.blocks call.object values) (sym same)
      (begins m objects rules begun method state call.object call.cells has-here)

  -- what is shown of the call, in the words of its way
  seen-are : call_sights state m.conv call (values_received m.conv call)
      ≡ sights_of m method state.blocks m.conv call.object values
      ++ last_sight m objects rules begun method state call.object call.cells has-here ∷ []
  seen-are =
      ap (λ k. call_sights state m.conv k (values_received m.conv k)) has.call_is
      ∙ sights-are m objects rules begun method state call.object call.cells has-here

  pub fails-on-way : (s0 s1 : Told)
      → SawPrefix s0 s1 (sights_of m method state.blocks conv call.object values)
      → SawPrefix s0 s1 (call_sights state m.conv call (values_received m.conv call))
  fails-on-way s0 s1 some =
      subst (SawPrefix s0 s1) (sym seen-are)
      (saw-prefix-more s0 s1 (sights_of m method state.blocks m.conv call.object values)
      (last_sight m objects rules begun method state call.object call.cells has-here ∷ [])
      (subst (λ k. SawPrefix s0 s1 (sights_of m method state.blocks k call.object values)) same some))

  module _ (m2 : MachineView) (last : Visit) (t0 told : List ℕ) (s0 s1 : Told) (nothing : t0 ≡ [])
      (passed_so : IsPassedOn m m2 objects method (under conv) last state.blocks call.object values (t0, told) (s0, s1)) where
    passed : IsPassedOn m m2 objects method (under m.conv) last state.blocks call.object values ([], told) (s0, s1)
    passed =
        subst (λ k. IsPassedOn m m2 objects method (under k) last state.blocks call.object values ([], told) (s0, s1)) same
        (subst (λ t. IsPassedOn m m2 objects method (under conv) last state.blocks call.object values (t, told) (s0, s1)) nothing passed_so)

    pub can : CanReply m2 rules method last begun.entered state.blocks (answering call.object (behind state.blocks m.conv call.object)) values
    can = can-reply m objects rules begun method state call.object call.cells has-here m2 last told s0 s1 passed

    pub fails-at-reply : SawPrefix s0 s1 (call_sights state m.conv call (values_received m.conv call))
    fails-at-reply =
        subst (SawPrefix s0 s1) (sym seen-are)
        (saw-so-far s0 s1 (sights_of m method state.blocks m.conv call.object values)
        (last_sight m objects rules begun method state call.object call.cells has-here ∷ []) passed.saw)

    pub fails-at-look : (s2 : Told) → SawNothing s1 s2
        → SawPrefix s0 s2 (call_sights state m.conv call (values_received m.conv call))
    fails-at-look s2 none =
        subst (SawPrefix s0 s2) (sym seen-are)
        (saw-so-far s0 s2 (sights_of m method state.blocks m.conv call.object values)
        (last_sight m objects rules begun method state call.object call.cells has-here ∷ [])
        (saw-no-more s0 s1 s2 (sights_of m method state.blocks m.conv call.object values) passed.saw none))

    module _ (m3 : MachineView) (answered : Answered)
        (replied : HasReplied m2 m3 rules method last begun.entered state.blocks values told answered) where
      pub answered-so : IsAnswered state m m3 call answered
      answered-so =
          subst (λ k. IsAnswered state m m3 k answered) (sym has.call_is)
          (is-answered m objects rules begun method state call.object call.cells has-here m2 last told s0 s1 passed m3 answered replied)

      pub seen-all : (s2 : Told) → Saw s1 s2 (sight_of m3 ∷ [])
          → Saw s0 s2 (call_sights state m.conv call (values_received m.conv call))
      seen-all s2 saw =
          subst (λ k. Saw s0 s2 (call_sights state m.conv k (values_received m.conv k))) (sym has.call_is)
          (saw-all m objects rules begun method state call.object call.cells has-here m2 last told s0 s1 passed m3 answered replied s2 saw)
