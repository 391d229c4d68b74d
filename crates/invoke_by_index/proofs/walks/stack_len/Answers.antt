use Rattle.std.proofs.Common.{◌≡◌, ◌≤◌, ◌++◌, length, sym, subst, ap, ◌∙◌, arith}
use Rattle.std.proofs.lemmas.List.{append-nil}
use Rattle.call_model.specs.Placement.{stack_len_of}
use Rattle.call_model.specs.Prototype.{types_of}
use Rattle.invoke_by_index.specs.Methods.{prototype}
use Rattle.invoke_by_index.proofs.Prototypes.{length-types_of}
use Rattle.invoke_by_index.proofs.walks.stack_len.Goals as goal

pub returns-clause-few : goal.returns-clause-few
returns-clause-few g c =
    let conv = g.C.Convention.CONV in let inv = c.loop-arg.invariant in let proto = prototype c.args.method.now in let front = c.loop-arg.yielded in
    let all : front ≡ proto = sym (append-nil front) ∙ ap (λ l. front ++ l) (sym c.in-None.ensures.steps.0) ∙ inv.whole in
    let few : length proto ≤ 257 = subst (λ l. length l ≤ 257) inv.whole inv.few in
    let bounded : stack_len_of conv (types_of proto) ≤ 2064 = g.met.C.Convention.bounded (types_of proto) (omega (arith, few, length-types_of proto)) in
    omega (arith, c.stack_len.ensures _ inv.stands, ap (λ p. stack_len_of conv (types_of p)) all, bounded)
