use Rattle.std.proofs.Common.{◌≡◌, None, Some, ap, refl, sym, ◌∙◌, rules}
use Rattle.std.specs.Int.{w128}
use Rattle.std.proofs.lemmas.Int.{to_z-of_z}
use Rattle.transcript_text.specs.Texts.{ended}
use Rattle.xp_base.specs.Digits.{decimal_text}
use Rattle.script_meaning.specs.Step.{quiet, shown_variable}
use Rattle.script_stage.proofs.stages.Stage.show_variable.Goals as goal

pub returns-in_default : goal.returns-in_default
unfolding shown_variable
returns-in_default c = (
  refl,
  λ state stands.
      let none : state.variables c.args.name.now ≡ None =
      ap (λ f. f c.args.name.now) (sym stands.variables) ∙ sym c.find.ensures ∙ c.in_default.is in
      rw none refl,
)

pub returns : goal.returns
unfolding shown_variable
returns c = λ state stands.
    let some : state.variables c.args.name.now ≡ Some c.in-Some.number =
    ap (λ f. f c.args.name.now) (sym stands.variables) ∙ sym c.find.ensures ∙ c.in-Some.is in
    record {
      stepped = quiet state (ended (decimal_text c.in-Some.number));
      is = rw some refl;
      stands = stands;
      conv = refl;
      tells = sym (c.in_ok-append.ensures.ok ∙ ap ended (c.in_ok-line.ensures
          ∙ ap decimal_text (to_z-of_z w128 c.in-Some.number (search rules))));
      quiet = refl;
    }
