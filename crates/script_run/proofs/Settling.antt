-- From what an act comes to, to its step.
use Rattle.std.proofs.Common.{◌≡◌, ℕ, List, ◌++◌, Result, sym, ap, subst, ◌∙◌}
use Rattle.call_scripts.specs.declared.script.Line.{Line}
use Rattle.transcript_text.specs.declared.refusals.Refusal.{Refusal}
use Rattle.script_meaning.specs.State.{State}
use Rattle.script_meaning.specs.Step.{Stepped, echo_text, echoed, refused_text, settled}
use Rattle.script_stage.specs.declared.stages.Stage.{Stage}
use Rattle.script_run.specs.Runs.{Did, IsRefused, Looks, Ran}

pub did-settles : (old new : Stage) (looks : Looks) (state : State)
    (asked : Result Stepped Refusal) (text : List ℕ) → Did old new looks asked text
    → Ran new looks text (settled state asked)
did-settles old new looks state asked text did =
    subst (λ a. Ran new looks text (settled state a)) (sym did.is) did.ran

pub refused-settles : (old new : Stage) (looks : Looks) (state : State)
    (asked : Result Stepped Refusal) (refusal : Refusal) (text : List ℕ)
    → IsRefused old new looks state asked refusal → text ≡ refused_text refusal
    → Ran new looks text (settled state asked)
refused-settles old new looks state asked refusal text refused told =
    subst (λ a. Ran new looks text (settled state a)) (sym refused.is)
    (record { stands = refused.stands; text_is = told; saw = refused.saw })

pub echoes : (new : Stage) (looks : Looks) (line : Line) (stepped : Stepped)
    (told text : List ℕ) → Ran new looks told stepped → text ≡ echo_text line ++ told
    → Ran new looks text (echoed line stepped)
echoes new looks line stepped told text ran is = record {
  stands = ran.stands;
  text_is = is ∙ ap (λ more. echo_text line ++ more) ran.text_is;
  saw = ran.saw;
}
