use Rattle.std.proofs.Common.{◌≡◌, ℕ, ◌≤◌, Bool, cond, refl, [], ◌∷◌, ◌++◌, length, sym, subst, ap, ◌∙◌, arith, append_assoc}
use Rattle.std.proofs.lemmas.List.{append-nil, length_push}
use Rattle.invoke_by_index.specs.Arguments.{cell_at, cell_by, number_in, stands_for_param}
use Rattle.invoke_by_index.specs.Methods.{prototype}
use Rattle.invoke_by_index.specs.Ranges.{is_pattern}
use Rattle.invoke_by_index.proofs.Filling.{filled-none, filled_to, next-filled, next-in-cells, next-number}
use Rattle.invoke_by_index.proofs.Fitting.{fitting-pattern}
use Rattle.invoke_by_index.proofs.Parameters.{count-push, number-of-bool, one-at-most}
use Rattle.invoke_by_index.proofs.cells.put_cells.Goals as goal

pub value_of-value-requires : goal.value_of-value-requires
value_of-value-requires c =
    ap (λ x. is_pattern (number_in x)) c.given_at-arg.ensures ∙ fitting-pattern c.args.machine.now.conv (prototype c.args.method.now) c.args.args.now c.requires.fit c.loop-param.k

pub number_in_cell-requires : goal.number_in_cell-requires
number_in_cell-requires c =
    ap (λ x. is_pattern (number_in x)) c.given_at-arg.ensures ∙ fitting-pattern c.args.machine.now.conv (prototype c.args.method.now) c.args.args.now c.requires.fit c.loop-param.k

pub put_cell-requires : goal.put_cell-requires
put_cell-requires c =
    let inv = c.loop-param.invariant in let proto = prototype c.args.method.now in
    let front = c.loop-param.yielded in let param = c.in-Some.param in let back = c.next.new.self in
    let whole : front ++ param ∷ back ≡ proto = ap (λ l. front ++ l) (sym c.in-Some.ensures.steps) ∙ inv.whole in
    next-in-cells c.args.machine.now c.args.base c.args.context proto c.args.args.now front param back whole c.requires.cells c.loop-param.cell inv.place c.loop-param.machine inv.filled

pub loop-param-init : goal.loop-param-init
loop-param-init c =
    let proto = prototype c.args.method.now in
    let same : c.into_iter-param-iterator.result ≡ c.args-param-items.result = c.into_iter-param-iterator.ensures.into_iter_gives in
    record {
      whole = same ∙ c.args-param-items.ensures.items;
      few = subst (λ l. length l ≤ 257) (sym same) c.args-param-items.ensures.few;
      counted = refl;
      low = omega arith;
      place = omega arith;
      filled = filled-none c.args.machine.now c.args.base c.args.context proto c.args.args.now;
    }

pub loop-param-preserved : goal.loop-param-preserved
loop-param-preserved c =
    let inv = c.loop-param.invariant in let proto = prototype c.args.method.now in let m = c.args.machine.now in let args = c.args.args.now in
    let front = c.loop-param.yielded in let param = c.in-Some.param in let back = c.next.new.self in let x = c.given_at-arg.result in
    let whole : front ++ param ∷ back ≡ proto = ap (λ l. front ++ l) (sym c.in-Some.ensures.steps) ∙ inv.whole in
    let more : c.from-k.result ≡ cond (stands_for_param param) 1 0 = c.from-k.ensures ∙ number-of-bool c.stands_for_param.result ∙ ap (λ (b : Bool). cond {A = ℕ} b 1 0) c.stands_for_param.ensures in
    let number : c.number_in_cell.result ≡ cell_at m.conv c.args.base c.args.context proto args (length front)
    = c.number_in_cell.ensures
    ∙ (λ i. cell_by (c.conv-conv.ensures i) param.pass param.ty x (c.value_of-value.ensures i))
    ∙ next-number m c.args.base c.args.context proto args front param back whole c.requires.cells c.loop-param.cell inv.place c.loop-param.k c.args.given x inv.counted c.given_at-arg.ensures c.requires.given in
    record {
      whole = append_assoc front (param ∷ []) back ∙ whole;
      few = subst (λ l. length l ≤ 257) (inv.whole ∙ sym whole ∙ sym (append_assoc front (param ∷ []) back)) inv.few;
      counted = omega (arith, inv.counted, more, count-push front param);
      low = omega (arith, inv.low, more, one-at-most (stands_for_param param), length_push front param);
      place = omega (arith, inv.place, length_push front param);
      filled = next-filled m c.args.base c.args.context proto args front param back whole c.requires.cells c.loop-param.cell inv.place
          c.number_in_cell.result c.loop-param.machine c.put_cell.new.machine number inv.filled c.put_cell.ensures.put;
    }

pub returns : goal.returns
returns c =
    let inv = c.loop-param.invariant in let proto = prototype c.args.method.now in let front = c.loop-param.yielded in
    let all : front ≡ proto = sym (append-nil front) ∙ ap (λ l. front ++ l) (sym c.in-None.ensures.steps.0) ∙ inv.whole in
    inv.filled ∙ ap (λ l. filled_to c.args.machine.now c.args.base c.args.context proto c.args.args.now (length l)) all
