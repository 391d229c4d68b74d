use Rattle.std.proofs.Common.{◌≡◌, ℕ, ◌+◌, ◌<◌, ◌&&◌, ◌||◌, Bool, true, false, cond, not, [], ◌∷◌, ◌++◌, length, Option, Some, None, sym, subst, ap, ◌∙◌, arith, append_assoc}
use Rattle.std.specs.Prelude.{if◌then◌else◌}
use Rattle.std.specs.Option.{option_or}
use Rattle.invoke_by_index.specs.Arguments.{is_absent, number_in, parameters, stands_for_param, takes_form}
use Rattle.invoke_by_index.specs.Methods.{prototype}
use Rattle.invoke_by_index.specs.Ranges.{in_range}
use Rattle.invoke_by_index.proofs.FirstFaults.{Judged, fault-of-form, judged-more, misformed-here}
use Rattle.invoke_by_index.proofs.Parameters.{count-push, number-of-bool, one-at-most, parameter-inside, parameter-there}
use Rattle.invoke_by_index.proofs.fits.count_given_in_pairs.Goals as goal

pub returns-then-not-has_form-clause-fault : goal.returns-then-not-has_form-clause-fault
returns-then-not-has_form-clause-fault c =
    let inv = c.loop-param.invariant in let proto = prototype c.args.method.now in let args = c.args.args.now in
    let front = c.loop-param.yielded in let param = c.in-Some.param in let back = c.next.new.self in let k = c.loop-param.k in
    let whole : front ++ param ∷ back ≡ proto = ap (λ l. front ++ l) (sym c.in-Some.ensures.steps) ∙ inv.whole in
    let stands : stands_for_param param ≡ true = sym c.stands_for_param.ensures ∙ c.if-not-stands_for_param.false in
    let inside : k < length args = omega (arith, c.requires.paired, inv.counted, parameter-inside proto front param back whole stands) in
    let fails : takes_form c.loop-param.left_out param.optional param.pass c.given_at-arg.result ≡ false = sym c.has_form.ensures ∙ c.if-not-has_form.true in
    fault-of-form c.args.conv proto args k c.requires.paired
    (misformed-here c.args.conv (parameters proto) args k c.loop-param.left_out c.loop-param.given c.loop-param.out_of_range inv.judged
    param (parameter-there proto front param back whole stands k inv.counted) c.given_at-arg.result c.given_at-arg.ensures inside fails)

pub loop-param-preserved : goal.loop-param-preserved
loop-param-preserved c =
    let inv = c.loop-param.invariant in let proto = prototype c.args.method.now in let args = c.args.args.now in
    let front = c.loop-param.yielded in let param = c.in-Some.param in let back = c.next.new.self in let k = c.loop-param.k in let x = c.given_at-arg.result in
    let whole : front ++ param ∷ back ≡ proto = ap (λ l. front ++ l) (sym c.in-Some.ensures.steps) ∙ inv.whole in
    let stands : stands_for_param param ≡ true = sym c.stands_for_param.ensures ∙ c.if-not-stands_for_param.false in
    let inside : k < length args = omega (arith, c.requires.paired, inv.counted, parameter-inside proto front param back whole stands) in
    let takes : takes_form c.loop-param.left_out param.optional param.pass x ≡ true = sym c.has_form.ensures ∙ c.if-not-has_form.false in
    let one : cond {A = ℕ} (stands_for_param param) 1 0 ≡ 1 = ap (λ (b : Bool). cond {A = ℕ} b 1 0) stands in
    let more : c.from-given.result ≡ cond (param.optional && not (is_absent x)) 1 0
    = c.from-given.ensures ∙ number-of-bool c.is_given.result ∙ ap (λ (b : Bool). cond {A = ℕ} b 1 0) c.is_given.ensures in
    let out : c.or-out_of_range.result ≡ option_or c.loop-param.out_of_range (if in_range c.args.conv param.ty (number_in x) then None else Some k)
    = c.or-out_of_range.ensures ∙ ap (option_or c.loop-param.out_of_range) c.range_fault.ensures in
    let absent : (c.loop-param.left_out || c.is_absent-left_out.result) ≡ (c.loop-param.left_out || is_absent x) = ap (λ (b : Bool). c.loop-param.left_out || b) c.is_absent-left_out.ensures in
    let given : c.loop-param.given + c.from-given.result ≡ c.loop-param.given + cond (param.optional && not (is_absent x)) 1 0 = ap (λ (n : ℕ). c.loop-param.given + n) more in
    let next = judged-more c.args.conv (parameters proto) args k c.loop-param.left_out c.loop-param.given c.loop-param.out_of_range inv.judged
    param (parameter-there proto front param back whole stands k inv.counted) x c.given_at-arg.ensures inside takes in
    record {
      whole = append_assoc front (param ∷ []) back ∙ whole;
      counted = omega (arith, inv.counted, count-push front param, one);
      few = omega (arith, inv.few, more, one-at-most (param.optional && not (is_absent x)));
      judged = subst (λ (b : Bool). Judged c.args.conv (parameters proto) args (k + 1) b (c.loop-param.given + c.from-given.result) c.or-out_of_range.result) (sym absent)
          (subst (λ (n : ℕ). Judged c.args.conv (parameters proto) args (k + 1) (c.loop-param.left_out || is_absent x) n c.or-out_of_range.result) (sym given)
          (subst (λ (o : Option ℕ). Judged c.args.conv (parameters proto) args (k + 1) (c.loop-param.left_out || is_absent x) (c.loop-param.given + cond (param.optional && not (is_absent x)) 1 0) o) (sym out) next));
    }
