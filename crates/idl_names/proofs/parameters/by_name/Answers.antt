use Rattle.std.proofs.Common.{◌≡◌, suc, ◌-◌, ◌<◌, refl, sym, ap, ◌∙◌, arith, length, drop, option_map}
use Rattle.std.proofs.lemmas.List.{drop_all}
use Rattle.idl_meaning.specs.Scopes.{number_from}
use Rattle.idl_meaning.specs.Faults.{param_of}
use Rattle.idl_names.specs.Parameters.{number_of, param_in}
use Rattle.idl_names.proofs.Numbering.{numbers-more, params-more}
use Rattle.idl_names.proofs.parameters.by_name.Goals as goal

pub back-init : goal.back-init
back-init c = record {
  numbers = (λ j n. option_map number_of (c.new-named.ensures j n)) ∙ sym (ap (number_from (length c.args.params.now)) (drop_all (length c.args.params.now) c.args.params.now (omega arith)));
  params = (λ j n. option_map param_in (c.new-named.ensures j n)) ∙ sym (ap param_of (drop_all (length c.args.params.now) c.args.params.now (omega arith)));
  within = omega arith;
}

pub back-preserved : goal.back-preserved
back-preserved c =
    let some : 0 < c.back.left = c.back-test.true in
    let e : c.back.left ≡ suc (c.back.left - 1) = omega arith in
    let inside : c.back.left - 1 < length c.args.params.now = let w = c.back.invariant.within in omega arith in
    record {
      numbers = numbers-more _ _ _ c.index-params-left.result _ _ _ _ c.in_ok-put.ensures c.as_slice.ensures refl e inside c.index-params-left.is c.back.invariant.numbers;
      params = params-more _ _ _ c.index-params-left.result _ _ _ _ c.in_ok-put.ensures c.as_slice.ensures refl e inside c.index-params-left.is c.back.invariant.params;
      within = let w = c.back.invariant.within in omega arith;
    }

pub returns-clause-numbers : goal.returns-clause-numbers
returns-clause-numbers c =
    let none : c.back.left ≡ 0 = omega arith in
    c.back.invariant.numbers ∙ (λ j. number_from (none j) (drop (none j) c.args.params.now))
