use Rattle.std.proofs.Common.{◌≡◌, ℕ, ◌≤◌, ◌∙◌, ◌++◌, ◌∷◌, Bool, cond, [], length, ap, sym, subst, arith, append_assoc}
use Rattle.std.specs.Prelude.{fold}
use Rattle.std.proofs.lemmas.List.{length_push}
use Rattle.invoke_by_index.specs.Arguments.{stands_for_param}
use Rattle.invoke_by_index.specs.Methods.{prototype}
use Rattle.invoke_by_index.proofs.Parameters.{count-push, number-of-bool, one-at-most}
use Rattle.lib_model.specs.Table.{table_of}
use Rattle.script_meaning.specs.Calls.{learned_at}
use Rattle.script_meaning.specs.Outs.{out_line}
use Rattle.script_outs.specs.Held.{after_on}
use Rattle.script_stage.specs.Standing.{known}
use Rattle.std.specs.List.{flat_map}
use Rattle.script_results.proofs.Steps.{learned-more, none-more, told-more}
use Rattle.script_results.proofs.results.tell_outs.Goals as goal
use Rattle.script_results.proofs.results.tell_outs.Goals.{then-is_by_cell+in_ok-tell_out+in_ok-learn_out, else-is_by_cell}

pub loop-arg-preserved : goal.loop-arg-preserved
loop-arg-preserved c =
    let inv = c.loop-arg.invariant in
    let proto = prototype c.args.method.now in
    let m = c.args.machine.now in
    let front = c.loop-arg.yielded in
    let arg = c.in-Some.arg in
    let back = c.next.new.self in
    let whole : front ++ arg ∷ back ≡ proto =
    ap (λ l. front ++ l) (sym c.in-Some.ensures.steps) ∙ inv.whole in
    let more : c.from-param.result ≡ cond (stands_for_param arg) 1 0 =
    c.from-param.ensures ∙ number-of-bool c.stands_for_param.result
    ∙ ap (λ (b : Bool). cond {A = ℕ} b 1 0) c.stands_for_param.ensures in
    record {
      whole = append_assoc front (arg ∷ []) back ∙ whole;
      few = subst (λ l. length l ≤ 257)
          (inv.whole ∙ sym whole ∙ sym (append_assoc front (arg ∷ []) back)) inv.few;
      place = omega (arith, inv.place, length_push front arg);
      counted = omega (arith, inv.counted, more, count-push front arg);
      low = omega (arith, inv.low, more, one-at-most (stands_for_param arg), length_push front arg);
      told = λ held h.
          let line = out_line (table_of c.args.typelib.now) m.conv (after_on m held proto c.args.values.now) in
          elim c.if-is_by_cell.branch [
            | then-is_by_cell+in_ok-tell_out+in_ok-learn_out w ↦
                w.text-is
                ∙ w.in_ok-tell_out.ensures held h
                ∙ (λ j. inv.told held h j ++ line (inv.place j))
                ∙ told-more proto front arg back whole line (sym c.is_by_cell.ensures ∙ w.if-is_by_cell.true)
                c.args.text.now
            | else-is_by_cell w ↦
                w.text-is ∙ inv.told held h
                ∙ ap (λ ks. c.args.text.now ++ flat_map line ks)
                (none-more proto front arg back whole (sym c.is_by_cell.ensures ∙ w.if-is_by_cell.false))
          ];
      learned = λ held.
          let learn = learned_at m.conv (after_on m held proto c.args.values.now) c.args.words.now in
          elim c.if-is_by_cell.branch [
            | then-is_by_cell+in_ok-tell_out+in_ok-learn_out w ↦
                ap known w.variables-is
                ∙ w.in_ok-learn_out.ensures held
                ∙ (λ j. learn (inv.learned held j) (inv.place j))
                ∙ learned-more proto front arg back whole learn (sym c.is_by_cell.ensures ∙ w.if-is_by_cell.true)
                (known c.args.variables.now)
            | else-is_by_cell w ↦
                ap known w.variables-is ∙ inv.learned held
                ∙ ap (fold learn (known c.args.variables.now))
                (none-more proto front arg back whole (sym c.is_by_cell.ensures ∙ w.if-is_by_cell.false))
          ];
    }
