use Rattle.std.proofs.Common.{◌≡◌, ◌<◌, ◌≤◌, [], ◌∷◌, ◌++◌, length, sym, subst, ap, ◌∙◌, arith, append_assoc, length-append}
use Rattle.std.proofs.lemmas.List.{append-nil, length-set, length_push}
use Rattle.call_model.specs.Prototype.{types_of}
use Rattle.invoke_by_index.specs.Methods.{prototype}
use Rattle.invoke_by_index.proofs.Prototypes.{types_of-push}
use Rattle.stub_dispatch.proofs.Recovered.{IsReceived, are-received, each-more, has-own, is-received}
use Rattle.stub_dispatch.proofs.recovery.recover_each.Goals as goal

pub value_at-requires : goal.value_at-requires
value_at-requires g c =
    let conv = g.C.Convention.CONV in let inv = c.loop-arg.invariant in let proto = prototype c.args.method.now in
    let front = c.loop-arg.yielded in let arg = c.in-Some.arg in let back = c.next-in-loop-arg.new.self in
    let whole : front ++ arg ∷ back ≡ proto = ap (λ l. front ++ l) (sym c.in-Some.ensures.steps) ∙ inv.whole in
    has-own conv proto front arg back whole c.args.frame.now c.CONV-conv.result c.CONV-conv.ensures c.passed_type-ty.result c.passed_type-ty.ensures
    c.next-at.result (c.next-at.ensures.at _ inv.stands) g.met.C.Convention.within c.requires.enough

pub loop-arg-preserved : goal.loop-arg-preserved
loop-arg-preserved g c =
    let conv = g.C.Convention.CONV in let inv = c.loop-arg.invariant in let proto = prototype c.args.method.now in
    let front = c.loop-arg.yielded in let arg = c.in-Some.arg in let back = c.next-in-loop-arg.new.self in
    let whole : front ++ arg ∷ back ≡ proto = ap (λ l. front ++ l) (sym c.in-Some.ensures.steps) ∙ inv.whole in
    let stands = subst (λ t. g.C.Convention.stands_for c.next-at.new.self (types_of front ++ t ∷ [])) c.passed_type-ty.ensures (c.next-at.ensures.longer _ inv.stands) in
    let inside : c.loop-arg.i < length c.loop-arg.cells = omega (arith, inv.count, inv.paired, ap length whole, length-append front (arg ∷ back)) in
    let value = is-received conv proto front arg back whole c.args.frame.now c.CONV-conv.result c.CONV-conv.ensures c.passed_type-ty.result c.passed_type-ty.ensures
    c.next-at.result (c.next-at.ensures.at _ inv.stands) c.loop-arg.i c.value_at.result inv.count c.value_at.ensures.value c.value_at.ensures.own c.value_at.ensures.stays in
    record {
      stands = subst (λ ts. g.C.Convention.stands_for c.next-at.new.self ts) (types_of-push front arg) stands;
      whole = append_assoc front (arg ∷ []) back ∙ whole;
      few = subst (λ l. length l ≤ 257) (inv.whole ∙ sym whole ∙ sym (append_assoc front (arg ∷ []) back)) inv.few;
      count = omega (arith, inv.count, length_push front arg);
      paired = length-set c.loop-arg.cells c.loop-arg.i c.value_at.result ∙ inv.paired;
      each = each-more 0 (IsReceived conv proto c.args.frame.now) c.loop-arg.cells c.loop-arg.i c.value_at.result inside value inv.each;
    }

pub returns : goal.returns
returns g c =
    let inv = c.loop-arg.invariant in let proto = prototype c.args.method.now in let front = c.loop-arg.yielded in
    let all : front ≡ proto = sym (append-nil front) ∙ ap (λ l. front ++ l) (sym c.in-None.ensures.steps.0) ∙ inv.whole in
    let count : c.loop-arg.i ≡ length proto = inv.count ∙ ap length all in
    record {
      received = are-received g.C.Convention.CONV proto c.args.frame.now c.loop-arg.cells inv.paired (λ k lt. (inv.each k (omega (arith, lt, count))).is);
      patterns = record {
        paired = inv.paired;
        each = λ k lt. (inv.each k (omega (arith, lt, count, inv.paired))).stays;
      };
    }
