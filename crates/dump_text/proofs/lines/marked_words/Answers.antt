use Rattle.std.proofs.Common.{◌≡◌, IfOk, ℕ, ◌<◌, ◌-◌, List, length, take, drop, subst, sym, ap, ◌∙◌, arith, length-drop}
use Rattle.std.proofs.lemmas.Bool.{eqb-true}
use Rattle.std.proofs.lemmas.Bool.Decides.{nat_tests}
use Rattle.std.proofs.lemmas.List.{nil_from_length, take_all}
use Rattle.dump_text.proofs.LineLaws.{behind_marked, none_marked, some_marked}
use Rattle.dump_text.proofs.lines.marked_words.Goals as goal

pub returns-then-is_empty : goal.returns-then-is_empty
returns-then-is_empty c =
    let all : take c.loop-marked.marked-index c.args.words.now ≡ c.args.words.now = take_all _ _ (omega arith) in
    let text : c.as_slice-text.result.now ≡ behind_marked c.args.separator c.args.words.now = c.as_slice-text.ensures ∙ c.loop-marked.invariant ∙ ap (behind_marked c.args.separator) all in
    let none : length c.as_slice-text.result.now ≡ 0 = eqb-true _ _ (sym c.is_empty.ensures ∙ c.if-is_empty.true) in
    subst (λ (text : List ℕ). IfOk c.copy.result (λ copied. copied ≡ text)) (none_marked c.args.separator c.args.words.now (sym text ∙ nil_from_length _ none)) c.copy.ensures

pub returns : goal.returns
returns c =
    let all : take c.loop-marked.marked-index c.args.words.now ≡ c.args.words.now = take_all _ _ (omega arith) in
    let text : c.as_slice-text.result.now ≡ behind_marked c.args.separator c.args.words.now = c.as_slice-text.ensures ∙ c.loop-marked.invariant ∙ ap (behind_marked c.args.separator) all in
    let some : 0 < length c.as_slice-text.result.now = grind (arith, nat_tests, c.is_empty.ensures, c.if-is_empty.false) in
    let rest : take (length c.as_slice-text.result.now - 1) (drop 1 c.as_slice-text.result.now) ≡ drop 1 c.as_slice-text.result.now =
    take_all _ (drop 1 c.as_slice-text.result.now) (omega (arith, length-drop 1 c.as_slice-text.result.now)) in
    subst (λ (text : List ℕ). IfOk c.copy-2.result (λ copied. copied ≡ text))
    (rest ∙ ap (drop 1) text ∙ some_marked c.args.separator c.args.words.now (subst (λ (t : List ℕ). 0 < length t) text some)) c.copy-2.ensures
