use Rattle.std.proofs.Common.{◌≡◌, None, Some, true, false, Ok, IfOk, ap, refl, sym, subst, ◌∙◌, rules}
use Rattle.std.specs.Int.{w128}
use Rattle.std.specs.Prelude.{unsigned_abs}
use Rattle.std.proofs.lemmas.Int.{to_z-of_z}
use Rattle.call_model.specs.declared.ctypes.CType.TheVariants.{Ptr}
use Rattle.invoke_by_index.specs.Ranges.{in_range}
use Rattle.script_meaning.specs.Lawful.{IsLawful}
use Rattle.script_meaning.specs.State.{State}
use Rattle.script_meaning.specs.Step.{done, new_context}
use Rattle.script_meaning.specs.Words.{number_of_value}
use Rattle.script_meaning.proofs.Lawfulness.{context-keeps}
use Rattle.script_stage.proofs.stages.Stage.set_context.Goals as goal

pub returns-in_default : goal.returns-in_default
unfolding new_context
returns-in_default c = (
  refl,
  λ state stands.
      let none : number_of_value state c.args.value.now ≡ None =
      sym (c.number_of_value.ensures state stands) ∙ c.in_default.is in
      rw none refl,
)

pub returns-then-not-in_range : goal.returns-then-not-in_range
unfolding new_context
returns-then-not-in_range c = (
  refl,
  λ state stands.
      let some : number_of_value state c.args.value.now ≡ Some c.in-Some.number =
      sym (c.number_of_value.ensures state stands) ∙ c.in-Some.is in
      let test : in_range c.args.self.now.machine.conv Ptr c.in-Some.number ≡ false =
      ap (λ k. in_range k Ptr c.in-Some.number) (sym c.conv.ensures)
      ∙ ap (in_range c.conv.result Ptr) (sym (to_z-of_z w128 c.in-Some.number (search rules)))
      ∙ sym c.in_range.ensures ∙ c.if-not-in_range.true in
      rw (some, test) refl,
)

pub returns : goal.returns
unfolding new_context
returns c = λ state stands.
    let conv = c.args.self.now.machine.conv in
    let number = c.in-Some.number in
    let some : number_of_value state c.args.value.now ≡ Some number =
    sym (c.number_of_value.ensures state stands) ∙ c.in-Some.is in
    let test : in_range conv Ptr number ≡ true =
    ap (λ k. in_range k Ptr number) (sym c.conv.ensures)
    ∙ ap (in_range c.conv.result Ptr) (sym (to_z-of_z w128 number (search rules)))
    ∙ sym c.in_range.ensures ∙ c.if-not-in_range.false in
    let after : State = record state { context = unsigned_abs number } in
    let is : new_context conv state c.args.value.now ≡ Ok (done after) = rw (some, test) refl in
    let lawful : IsLawful conv after =
    subst (λ r. IfOk r (λ stepped. IsLawful conv stepped.state)) is
    (context-keeps conv state stands.lawful c.args.value.now) in
    record {
      stepped = done after;
      is = is;
      stands = record {
        lawful = lawful;
        holds = stands.holds;
        cells = stands.cells;
        blocks = stands.blocks;
        variables = stands.variables;
        objects = stands.objects;
        rules = stands.rules;
        context = ap unsigned_abs (to_z-of_z w128 number (search rules));
      };
      conv = refl;
      tells = refl;
      quiet = refl;
    }
