use Rattle.std.proofs.Common.{ap, sym, subst, ◌∙◌, arith, length}
use Rattle.std.proofs.lemmas.Result.{err_from_is_err_and}
use Rattle.header_model.specs.Declares.{Declares}
use Rattle.header_text.specs.Meaning.{declared}
use Rattle.header_text.proofs.HeaderLaw.{scope-declared}
use Rattle.header_text.proofs.Whole.{forwards_within, header_made, same_error}
use Rattle.header_text.proofs.writing.header.Goals as goal

pub returns-in_err-push_forwards-clause-too_long :
    goal.returns-in_err-push_forwards-clause-too_long
returns-in_err-push_forwards-clause-too_long c =
    let p = err_from_is_err_and c.from_residual.result c.from_residual.ensures.1
    in rw (p.1, p.2)
    (λ h. omega (
      arith,
      c.in_err-push_forwards.ensures.too_long (same_error _ _ h),
      forwards_within c.args.scope.now c.new-text.result c.as_slice-ifaces.result.now c.new-text.ensures
          c.as_slice-ifaces.ensures,
    ))

pub returns-in_err-push_classes-clause-too_long : goal.returns-in_err-push_classes-clause-too_long
returns-in_err-push_classes-clause-too_long c =
    let made = header_made c.args.scope.now _ _ _ _ _ c.new-text.ensures c.as_slice-ifaces.ensures
    c.in_ok-push_forwards.ensures.text c.as_slice.ensures c.in_ok-order.ensures.order
    in let p = err_from_is_err_and c.from_residual-in_err-push_classes.result
    c.from_residual-in_err-push_classes.ensures.1
    in rw (p.1, p.2)
    (λ h. omega (arith, c.in_err-push_classes.ensures.too_long (same_error _ _ h), ap length made))

pub returns-clause-text : goal.returns-clause-text
returns-clause-text c = c.in_ok-push_classes.ensures.text
    ∙ header_made c.args.scope.now _ _ _ _ _ c.new-text.ensures c.as_slice-ifaces.ensures
    c.in_ok-push_forwards.ensures.text c.as_slice.ensures c.in_ok-order.ensures.order

pub returns-clause-declares : goal.returns-clause-declares
returns-clause-declares c = λ ok limits.
    subst (λ text. Declares text (declared c.args.scope.now)) (sym (returns-clause-text c))
    (scope-declared c.args.scope.now ok limits)
