use Rattle.std.proofs.Common.{◌≡◌, ◌+◌, Bool, true, false, length, arith, ap, sym, ◌∙◌}
use Rattle.std.specs.Prelude.{if◌then◌else◌}
use Rattle.lib_model.specs.Table.{gives_value}
use Rattle.lib_model.proofs.Positions.{written_last}
use Rattle.lib_model.proofs.prototypes.written_count.Goals as goal

pub returns-then-gives_value-clause-count : goal.returns-then-gives_value-clause-count
returns-then-gives_value-clause-count c =
    let gives : gives_value c.in-Some.last.now ≡ true =
    sym c.gives_value.ensures ∙ c.if-gives_value.true
    in omega (
      arith,
      written_last c.args.params.now c.in-Some.rest.now c.in-Some.last.now c.in-Some.ensures.cases.0
          ∙ ap (λ (b : Bool). length c.in-Some.rest.now + (if b then 0 else 1)) gives,
    )

pub returns-else-gives_value-clause-count : goal.returns-else-gives_value-clause-count
returns-else-gives_value-clause-count c =
    let gives : gives_value c.in-Some.last.now ≡ false =
    sym c.gives_value.ensures ∙ c.if-gives_value.false
    in omega (
      arith,
      c.in-Some.ensures.cases.1,
      written_last c.args.params.now c.in-Some.rest.now c.in-Some.last.now c.in-Some.ensures.cases.0
          ∙ ap (λ (b : Bool). length c.in-Some.rest.now + (if b then 0 else 1)) gives,
    )
