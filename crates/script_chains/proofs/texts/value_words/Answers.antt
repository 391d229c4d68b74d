use Rattle.std.proofs.Common.{◌≡◌, ◌+◌, [], ◌∷◌, ◌++◌, length, sym, ap, ◌∙◌, arith, append_assoc}
use Rattle.std.specs.Prelude.{map, slice_index}
use Rattle.std.specs.List.{range_with_len}
use Rattle.std.proofs.lemmas.List.{append-nil, length_push}
use Rattle.std.proofs.lemmas.List.FromFn.{map-range_with_len_more}
use Rattle.call_model.specs.Placement.{type_at}
use Rattle.call_model.specs.Prototype.{types_of}
use Rattle.invoke_by_index.specs.Methods.{prototype}
use Rattle.invoke_by_index.proofs.Prototypes.{type-there}
use Rattle.transcript_text.specs.Texts.{value_text}
use Rattle.script_meaning.specs.Calls.{value_word}
use Rattle.script_chains.proofs.texts.value_words.Goals as goal

pub loop-arg-preserved : goal.loop-arg-preserved
loop-arg-preserved c =
    let inv = c.loop-arg.invariant in
    let proto = prototype c.args.method.now in
    let front = c.loop-arg.yielded in
    let arg = c.in-Some.arg in
    let back = c.next.new.self in
    let whole : front ++ arg ∷ back ≡ proto = ap (λ l. front ++ l) (sym c.in-Some.ensures.steps) ∙ inv.whole in
    let i = c.loop-arg.i in
    let there : c.passed_type.result ≡ type_at (types_of proto) (i + 1) = c.passed_type.ensures ∙ type-there proto front arg back whole i inv.count in
    record {
      whole = append_assoc front (arg ∷ []) back ∙ whole;
      count = omega (arith, inv.count, length_push front arg);
      words = c.in_ok-push.ensures.ok
          ∙ (λ k. inv.words k ++ (c.in_ok-value_word.ensures ∙ ap (λ t. value_text t (slice_index c.args.values.now i)) there) k ∷ [])
          ∙ sym (map-range_with_len_more (value_word proto c.args.values.now) 0 i i (omega arith));
    }

pub returns : goal.returns
returns c =
    let inv = c.loop-arg.invariant in
    let proto = prototype c.args.method.now in
    let front = c.loop-arg.yielded in
    let all : front ≡ proto = sym (append-nil front) ∙ ap (λ l. front ++ l) (sym c.in-None.ensures.steps.0) ∙ inv.whole in
    inv.words ∙ ap (λ n. map (value_word proto c.args.values.now) (range_with_len 0 n)) (inv.count ∙ ap length all)
