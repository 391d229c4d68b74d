use Rattle.std.proofs.Common.{◌≡◌, Some, None, sym, ap, ◌∙◌, rules, w64}
use Rattle.std.specs.Prelude.{slice_get}
use Rattle.std.specs.Option.{option_copied, option_flatten}
use Rattle.std.specs.Int.RustNames.{FitsSigned}
use Rattle.std.proofs.lemmas.Int.{to_z-of_z}
use Rattle.idl_meaning.specs.Scopes.{constants_at}
use Rattle.idl_names.specs.Tables.{known}
use Rattle.idl_names.specs.Views.{seen}
use Rattle.idl_names.proofs.Seen.{seen-step, seen-none, own_first, own_none}
use Rattle.idl_names.proofs.constants.find.Goals as goal

pub returns-in_default-get : goal.returns-in_default-get
returns-in_default-get c =
    sym
    (c.up.invariant ∙ ap (λ at. constants_at (seen c.args.constants.now) at c.args.name.now) c.in-Some.is
    ∙ seen-none c.args.constants.now c.in-Some.rank c.args.name.now (sym c.get.ensures.value ∙ ap option_copied c.in_default-get.is))

pub returns-in-Some-own_value : goal.returns-in-Some-own_value
returns-in-Some-own_value c =
    let there : slice_get c.args.constants.now c.in-Some.rank ≡ Some c.in-Some-get.definition.now = sym c.get.ensures.value ∙ ap option_copied c.in-Some-get.is in
    let step = seen-step c.args.constants.now c.in-Some.rank c.in-Some-get.definition.now c.args.name.now there in
    let mine : option_flatten (known c.in-Some-get.definition.now.own c.args.name.now) ≡ Some c.in-Some-own_value.value = sym c.own_value.ensures ∙ c.in-Some-own_value.is in
    let all = c.up.invariant ∙ ap (λ at. constants_at (seen c.args.constants.now) at c.args.name.now) c.in-Some.is ∙ step ∙ own_first _ _ _ mine in
    let fits : FitsSigned w64 c.in-Some-own_value.value = search rules in
    simp to_z-of_z (sym all)

pub up-preserved : goal.up-preserved
up-preserved c =
    let there : slice_get c.args.constants.now c.in-Some.rank ≡ Some c.in-Some-get.definition.now = sym c.get.ensures.value ∙ ap option_copied c.in-Some-get.is in
    let step = seen-step c.args.constants.now c.in-Some.rank c.in-Some-get.definition.now c.args.name.now there in
    let mine : option_flatten (known c.in-Some-get.definition.now.own c.args.name.now) ≡ None = sym c.own_value.ensures ∙ c.in_default-own_value.is in
    c.up.invariant ∙ ap (λ at. constants_at (seen c.args.constants.now) at c.args.name.now) c.in-Some.is ∙ step ∙ own_none _ _ mine
    ∙ sym (ap (λ at. constants_at (seen c.args.constants.now) at c.args.name.now) c.below-at.ensures)
