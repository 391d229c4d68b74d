use Rattle.std.proofs.Common.{◌≡◌, ◌||◌, not, sym, ap, ◌∙◌}
use Rattle.std.specs.Prelude.{is_some, slice_index}
use Rattle.call_model.specs.Values.{own_len}
use Rattle.invoke_by_index.specs.Methods.{prototype}
use Rattle.call_replies.specs.Blocks.{data_at}
use Rattle.call_replies.specs.Reply.{own_len_in}
use Rattle.call_replies.specs.Writes.{asked_by, memory_of}
use Rattle.call_replies.proofs.Steps.{cell-lawful}
use Rattle.call_replies.proofs.values.is_lawful_cell.Goals as goal

pub returns-else-not-entered : goal.returns-else-not-entered
returns-else-not-entered c = λ blocks value held.
    let m = c.args.machine.now in let call = asked_by c.args.entered (prototype c.args.method.now) c.args.values.now in
    let k = c.args.position in let at = slice_index c.args.values.now k in
    let n : c.bytes.result ≡ own_len_in m.conv call k
    = c.bytes.ensures ∙ c.of-width.ensures ∙ (λ i. own_len (c.conv.ensures i) (c.type_at.ensures c.args.entered c.args.values.now i)) in
    let is : c.is_in_block.result ≡ is_some (data_at blocks at (own_len_in m.conv call k))
    = c.is_in_block.ensures blocks held ∙ ap (λ n. is_some (data_at blocks at n)) n in
    ap (λ t. not t || c.is_in_block.result) (sym c.if-not-entered.false) ∙ cell-lawful m.conv call (memory_of m blocks) k value c.is_in_block.result is
