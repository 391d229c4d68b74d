-- Lines that call nothing, among all lines.
use Rattle.std.proofs.Common.{◌≡◌, ℕ, List, Option, Some, Result, Ok, Err, sym, ap, subst, ◌∙◌, arith}
use Rattle.std.proofs.lemmas.List.{append-nil}
use Rattle.call_model.specs.declared.tables.Table.{Table}
use Rattle.machine_bench.specs.declared.sight.Sight.{Sight}
use Rattle.machine_bench.specs.Seen.{Saw, SawNothing}
use Rattle.transcript_text.specs.declared.refusals.Refusal.{Refusal}
use Rattle.script_meaning.specs.State.{State}
use Rattle.script_meaning.specs.Step.{Stepped}
use Rattle.script_stage.specs.declared.errors.StepError.{StepError}
use Rattle.script_stage.specs.declared.errors.StepError.TheVariants.{Refused, Memory}
use Rattle.script_stage.specs.declared.stages.Stage.{Stage}
use Rattle.script_stage.specs.Standing.{Does, Stands, TellsLine}
use Rattle.script_run.specs.Runs.{Comes}

pub saw-nothing : (seen : Option (List Sight)) → SawNothing seen seen
saw-nothing seen told is = is ∙ ap Some (sym (append-nil told))

-- what is asked for is what a line does that calls nothing
pub quietly : (table : Table) (asked other : State → Result Stepped Refusal) (old new : Stage)
    (seen : Option (List Sight)) (result : Result (List ℕ) StepError)
    → ((state : State) → other state ≡ asked state) → Does TellsLine asked old new result
    → Comes table other old new (record { before = seen; after = seen }) result
quietly table asked other old new seen (Ok text) same does = λ state at.
    let did = does state at.stands in record {
      stepped = did.stepped;
      is = same state ∙ did.is;
      ran = record {
        stands = did.stands;
        text_is = sym did.tells;
        saw = subst (Saw seen seen) (sym did.quiet) (saw-nothing seen);
      };
      conv = did.conv;
    }
quietly table asked other old new seen (Err (Refused refusal)) same does = λ state at. record {
  is = same state ∙ does.1 state at.stands;
  stands = subst (λ s. Stands s state) (sym does.0) at.stands;
  conv = ap (λ (s : Stage). s.machine.conv) does.0;
  saw = saw-nothing seen;
}
quietly table asked other old new seen (Err Memory) same does = λ state at.
    (0, omega arith, saw-nothing seen)
