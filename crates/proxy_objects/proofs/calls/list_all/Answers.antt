use Rattle.std.proofs.Common.{◌≡◌, ◌+◌, ◌<◌, ◌≤◌, [], ◌∷◌, ◌++◌, length, get_or, refl, sym, subst, ap, ◌∙◌, arith, append_assoc, length-append}
use Rattle.std.proofs.lemmas.List.{append-nil, length-set, length_push}
use Rattle.call_model.specs.declared.ctypes.CType.TheVariants.{I8, Ptr}
use Rattle.call_model.specs.Placement.{type_at}
use Rattle.call_model.specs.Prototype.{types_of}
use Rattle.call_model.specs.Values.{canon}
use Rattle.invoke_by_index.specs.Methods.{prototype}
use Rattle.invoke_by_index.proofs.Prototypes.{type-there}
use Rattle.stub_dispatch.proofs.Recovered.{each-more}
use Rattle.proxy_objects.proofs.Handed.{are-patterns, are-types, behind}
use Rattle.proxy_objects.proofs.calls.list_all.Goals as goal

pub loop-arg-init : goal.loop-arg-init
loop-arg-init c =
    let proto = prototype c.args.method.now in let conv = c.args.conv in
    let same : c.into_iter-arg-iterator.result ≡ c.args-arg-items.result = c.into_iter-arg-iterator.ensures.into_iter_gives in
    record {
      whole = same ∙ c.args-arg-items.ensures.items;
      few = subst (λ l. length l ≤ 257) (sym same) c.args-arg-items.ensures.few;
      count = refl;
      types_len = length-set c.args.types.now 0 Ptr ∙ c.requires.types;
      patterns_len = length-set c.args.patterns.now 0 c.canonical.result ∙ c.requires.patterns;
      types = each-more I8 (λ k t. t ≡ type_at (types_of proto) k) c.args.types.now 0 Ptr (omega (arith, c.requires.types)) refl (λ k lt. absurd (omega (arith, lt)));
      patterns = each-more 0 (λ k p. p ≡ canon conv (type_at (types_of proto) k) (get_or (c.args.target ∷ c.args.cells.now) k 0)) c.args.patterns.now 0 c.canonical.result
          (omega (arith, c.requires.patterns)) c.canonical.ensures.pattern (λ k lt. absurd (omega (arith, lt)));
    }

pub loop-arg-preserved : goal.loop-arg-preserved
loop-arg-preserved c =
    let inv = c.loop-arg.invariant in let proto = prototype c.args.method.now in let conv = c.args.conv in
    let front = c.loop-arg.yielded in let arg = c.in-Some.arg in let back = c.next.new.self in
    let whole : front ++ arg ∷ back ≡ proto = ap (λ l. front ++ l) (sym c.in-Some.ensures.steps) ∙ inv.whole in
    let i = c.loop-arg.i in
    let there : c.passed_type-ty.result ≡ type_at (types_of proto) (i + 1) = c.passed_type-ty.ensures ∙ type-there proto front arg back whole i inv.count in
    let inside : i + 1 < length proto + 1 = omega (arith, inv.count, ap length whole, length-append front (arg ∷ back)) in
    let pattern : c.canonical-in-loop-arg.result ≡ canon conv (type_at (types_of proto) (i + 1)) (get_or c.args.cells.now i 0)
    = c.canonical-in-loop-arg.ensures.pattern ∙ ap (λ t. canon conv t (get_or c.args.cells.now i 0)) there in
    record {
      whole = append_assoc front (arg ∷ []) back ∙ whole;
      few = subst (λ l. length l ≤ 257) (inv.whole ∙ sym whole ∙ sym (append_assoc front (arg ∷ []) back)) inv.few;
      count = omega (arith, inv.count, length_push front arg);
      types_len = length-set c.loop-arg.types (i + 1) c.passed_type-ty.result ∙ inv.types_len;
      patterns_len = length-set c.loop-arg.patterns (i + 1) c.canonical-in-loop-arg.result ∙ inv.patterns_len;
      types = each-more I8 (λ k t. t ≡ type_at (types_of proto) k) c.loop-arg.types (i + 1) c.passed_type-ty.result (omega (arith, inside, inv.types_len)) there inv.types;
      patterns = each-more 0 (λ k p. p ≡ canon conv (type_at (types_of proto) k) (get_or (c.args.target ∷ c.args.cells.now) k 0)) c.loop-arg.patterns (i + 1) c.canonical-in-loop-arg.result (omega (arith, inside, inv.patterns_len))
          (pattern ∙ ap (canon conv (type_at (types_of proto) (i + 1))) (sym (behind c.args.target c.args.cells.now i))) inv.patterns;
    }

pub returns : goal.returns
returns c =
    let inv = c.loop-arg.invariant in let proto = prototype c.args.method.now in let front = c.loop-arg.yielded in
    let all : front ≡ proto = sym (append-nil front) ∙ ap (λ l. front ++ l) (sym c.in-None.ensures.steps.0) ∙ inv.whole in
    let count : c.loop-arg.i ≡ length proto = inv.count ∙ ap length all in
    let few : length proto ≤ 257 = subst (λ l. length l ≤ 257) inv.whole inv.few in
    record {
      types = are-types proto c.loop-arg.types inv.types_len (λ k lt. inv.types k (omega (arith, lt, count)));
      patterns = are-patterns c.args.conv proto c.args.target c.args.cells.now c.loop-arg.patterns c.requires.cells inv.patterns_len (λ k lt. inv.patterns k (omega (arith, lt, count)));
      few = omega (arith, few, inv.types_len);
    }
