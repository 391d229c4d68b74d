use Rattle.std.proofs.Common.{◌≡◌, sym, ap, ◌∙◌}
use Rattle.call_model.specs.Values.{own_len}
use Rattle.invoke_by_index.specs.Methods.{prototype}
use Rattle.object_memory.specs.Memory as machines
use Rattle.object_memory.specs.Widths.{bytes_of}
use Rattle.xp_base.specs.LittleEndian.{low_bytes}
use Rattle.call_replies.specs.Reply.{own_len_in, value_in}
use Rattle.call_replies.specs.Writes.{after_writes, asked_by, planned_for}
use Rattle.call_replies.proofs.writes.write_item.Goals as goal

pub returns-in-Set : goal.returns-in-Set
returns-in-Set c =
    let m = c.args.machine.now in let call = asked_by c.args.entered (prototype c.args.method.now) c.args.values.now in
    let n : bytes_of c.of-width.result ≡ own_len_in m.conv call c.in-Set.at = c.of-width.ensures ∙ (λ i. own_len (c.conv.ensures i) (c.type_at.ensures c.args.entered c.args.values.now i)) in
    c.store.ensures.stores.stored ∙ ap (λ n. machines.written m (value_in call c.in-Set.at) (low_bytes n c.args.value)) n
    ∙ sym (ap (λ item. after_writes m (planned_for m.conv call item c.args.value)) c.in-Set.is)
