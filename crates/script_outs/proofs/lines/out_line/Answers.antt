use Rattle.std.proofs.Common.{◌≡◌, IfOk, sym, subst, ◌∙◌}
use Rattle.std.proofs.lemmas.Option.{get_or_from_slice_get}
use Rattle.invoke_by_index.specs.Arguments.{proto_at}
use Rattle.invoke_by_index.specs.Methods.{prototype}
use Rattle.lib_model.specs.Table.{table_of}
use Rattle.script_meaning.specs.Outs.{beside}
use Rattle.transcript_text.specs.Outs.{out_text}
use Rattle.transcript_text.specs.Texts.{value_text}
use Rattle.script_outs.specs.Held.{after_on}
use Rattle.script_outs.proofs.lines.out_line.Goals as goal

pub returns : goal.returns
returns c = λ held h.
    let table = table_of c.args.typelib.now in
    let conv = c.args.machine.now.conv in
    let proto = prototype c.args.method.now in
    let after = after_on c.args.machine.now held proto c.args.values.now in
    let arg : c.unwrap-arg.result ≡ proto_at proto c.args.k =
    sym (get_or_from_slice_get proto c.args.k c.unwrap-arg.result _ (sym c.arg.ensures ∙ c.unwrap-arg.ensures)) in
    let pattern = c.pattern_after-pattern.ensures held in
    let value = c.in_ok-value.ensures ∙ (λ j. value_text (arg j).ty (pattern j)) in
    let word = c.in_ok-word.ensures held h ∙ (λ j. beside table conv after (arg j).note (pattern j)) in
    subst (λ t. IfOk c.out_line.result (λ line. line ≡ t)) (λ j. out_text c.args.k (value j) (word j)) c.out_line.ensures
