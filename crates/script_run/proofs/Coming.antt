-- What comes of a call, from the call that has begun.
use Rattle.std.proofs.Common.{◌≡◌, ◌∙◌, ℕ, List, Option, Result, Ok, Err, arith, ap, sym, subst}
use Rattle.std.specs.Result.{IsErrAnd}
use Rattle.call_model.specs.declared.tables.Table.{Table}
use Rattle.call_scripts.specs.declared.script.ArgWord.{ArgWord}
use Rattle.descriptor_reader.specs.Views.{MethodOf}
use Rattle.machine_bench.specs.declared.sight.Sight.{Sight}
use Rattle.machine_bench.specs.Seen.{SawPrefix}
use Rattle.transcript_text.specs.declared.refusals.Refusal.{Refusal}
use Rattle.script_meaning.specs.Calls.{Call}
use Rattle.script_meaning.specs.Refusing.{◌then◌}
use Rattle.script_meaning.specs.State.{State}
use Rattle.script_meaning.specs.Step.{Stepped, made_by, settled}
use Rattle.script_chains.specs.declared.begun.Begun.{Begun}
use Rattle.script_stage.specs.declared.errors.StepError.{StepError}
use Rattle.script_stage.specs.declared.errors.StepError.TheVariants.{Refused, Memory}
use Rattle.script_stage.specs.declared.stages.Stage.{Stage}
use Rattle.begun_calls.specs.Calling.{HasCall, IsAt, MayBegin}
use Rattle.made_calls.specs.Making.{IsMade}
use Rattle.script_run.specs.Runs.{Comes, Did, WasCut}
use Rattle.script_run.proofs.Quietly.{saw-nothing}

module _ (table : Table) (asked : State → Result Stepped Refusal) (old new : Stage)
  where
    -- it is refused, and the stage is at the same state
    pub comes-refused : (seen : Option (List Sight)) (e : Refusal)
        → new.machine.conv ≡ old.machine.conv
        → ((state : State) → IsAt table old state → (asked state ≡ Err e) × IsAt table new state)
        → Comes table asked old new (record { before = seen; after = seen }) (Err (Refused e))
    comes-refused seen e same refused = λ state at. record {
      is = (refused state at).0;
      stands = (refused state at).1.stands;
      conv = same;
      saw = saw-nothing seen;
    }

    pub hands-refused : (seen : Option (List Sight)) (result : Result (List ℕ) StepError)
        (e : Refusal) → IsErrAnd result (λ s. s ≡ Refused e)
        → new.machine.conv ≡ old.machine.conv
        → ((state : State) → IsAt table old state → (asked state ≡ Err e) × IsAt table new state)
        → Comes table asked old new (record { before = seen; after = seen }) result
    hands-refused seen (Ok text) e is same refused = absurd is
    hands-refused seen (Err s) e is same refused =
        subst (λ s. Comes table asked old new (record { before = seen; after = seen }) (Err s)) (sym is)
        (comes-refused seen e same refused)

    -- there was no memory for it
    pub comes-cut : (before after : Option (List Sight)) (result : Result (List ℕ) StepError)
        → IsErrAnd result (λ s. s ≡ Memory)
        → ((state : State) → IsAt table old state
        → WasCut (record { before = before; after = after }) state (asked state))
        → Comes table asked old new (record { before = before; after = after }) result
    comes-cut before after (Ok text) is cut = absurd is
    comes-cut before after (Err s) is cut =
        subst (λ s. Comes table asked old new (record { before = before; after = after }) (Err s)) (sym is) cut

    -- before anything was seen
    pub comes-nothing : (seen : Option (List Sight)) (result : Result (List ℕ) StepError)
        → IsErrAnd result (λ s. s ≡ Memory)
        → Comes table asked old new (record { before = seen; after = seen }) result
    comes-nothing seen result is =
        comes-cut seen seen result is (λ state at. (0, omega arith, saw-nothing seen))

-- an enter that has not begun
pub not-entered : (table : Table) (asks : State → Result Call Refusal)
    (asked : State → Result Stepped Refusal) (old new : Stage) (method : MethodOf)
    (seen : Option (List Sight)) (result : Result (List ℕ) StepError) (e : StepError)
    → IsErrAnd result (λ s. s ≡ e) → MayBegin table asks old new method (Err e)
    → ((state : State) → IsAt table old state → (r : Refusal) → asks state ≡ Err r
    → asked state ≡ Err r)
    → Comes table asked old new (record { before = seen; after = seen }) result
not-entered table asks asked old new method seen result (Refused r) is may so =
    hands-refused table asked old new seen result r is may.0
    (λ state at. (so state at r (may.1 state at).0, (may.1 state at).1))
not-entered table asks asked old new method seen result Memory is may so =
    comes-nothing table asked old new seen result is

-- what a call that has begun comes to, under the convention that the stage has then
pub begun-comes : (table : Table) (old mid : Stage) (state : State) (begun : Begun)
    (method : MethodOf) (asks : Result Call Refusal) (asked : Result Stepped Refusal)
    (words : List ArgWord) (has : HasCall table old mid state begun method asks)
    → asked ≡ (asks then λ call. Ok (made_by table old.machine.conv state words call))
    → asked ≡ Ok (made_by table mid.machine.conv state words has.call)
begun-comes table old mid state begun method asks asked words has comes =
    comes
    ∙ ap (λ a. a then λ call. Ok (made_by table old.machine.conv state words call)) has.is
    ∙ ap (λ conv. Ok (made_by table conv state words has.call)) (sym has.conv)

-- it was made
pub made-did : (table : Table) (old mid new : Stage) (state : State) (begun : Begun)
    (method : MethodOf) (asks : Result Call Refusal) (asked : Result Stepped Refusal)
    (words : List ArgWord) (has : HasCall table old mid state begun method asks)
    → asked ≡ (asks then λ call. Ok (made_by table old.machine.conv state words call))
    → (before after : Option (List Sight)) (text : List ℕ)
    → IsMade mid new before after text (made_by table mid.machine.conv state words has.call)
    → Did old new (record { before = before; after = after }) asked text
made-did table old mid new state begun method asks asked words has comes before after text made = record {
  stepped = made_by table mid.machine.conv state words has.call;
  is = begun-comes table old mid state begun method asks asked words has comes;
  ran = record { stands = made.stands; text_is = made.text_is; saw = made.saw };
  conv = made.conv ∙ has.conv;
}

-- or memory ran out on the way
pub made-cut : (table : Table) (old mid : Stage) (state : State) (begun : Begun)
    (method : MethodOf) (asks : Result Call Refusal) (asked : Result Stepped Refusal)
    (words : List ArgWord) (has : HasCall table old mid state begun method asks)
    → asked ≡ (asks then λ call. Ok (made_by table old.machine.conv state words call))
    → (before after : Option (List Sight))
    → SawPrefix before after (made_by table mid.machine.conv state words has.call).sights
    → WasCut (record { before = before; after = after }) state asked
made-cut table old mid state begun method asks asked words has comes before after cut =
    subst (λ a. SawPrefix before after (settled state a).sights)
    (sym (begun-comes table old mid state begun method asks asked words has comes)) cut
