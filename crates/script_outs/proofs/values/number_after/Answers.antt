use Rattle.std.proofs.Common.{◌≡◌, ◌∙◌, rules, to_z, of_z}
use Rattle.std.specs.Int.{w128}
use Rattle.std.proofs.lemmas.Int.{to_z-of_z}
use Rattle.script_meaning.specs.Outs.{number_in_type}
use Rattle.script_outs.proofs.values.number_after.Goals as goal

pub returns : goal.returns
returns c = λ held.
    let kept : to_z w128 (of_z w128 c.number_in_type.result) ≡ c.number_in_type.result =
    to_z-of_z w128 c.number_in_type.result (search rules) in
    kept
    ∙ c.number_in_type.ensures
    ∙ (λ j. number_in_type (c.type_at.ensures j) (c.pattern_after.ensures held j))
