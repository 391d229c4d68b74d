use Rattle.std.proofs.Common.{◌≡◌, true, false, cond, [], ◌∷◌, Some, None, sym, ap, ◌∙◌}
use Rattle.invoke_by_index.specs.Methods.{prototype}
use Rattle.call_replies.specs.Reply.{data_write, is_lawful, item_writes}
use Rattle.call_replies.specs.Writes.{asked_by, memory_of, planned_for}
use Rattle.call_replies.proofs.Steps.{set-unlawful}
use Rattle.call_replies.proofs.values.item_value.Goals as goal

pub returns-then-not-is_lawful_cell : goal.returns-then-not-is_lawful_cell
returns-then-not-is_lawful_cell c = λ blocks held.
    let m = c.args.machine.now in let call = asked_by c.args.entered (prototype c.args.method.now) c.args.values.now in
    set-unlawful m.conv call (memory_of m blocks) c.in-Set.at c.in-Set.first c.in-Set.second
    (λ value. sym c.if-not-is_lawful_cell.true ∙ c.is_lawful_cell.ensures blocks value held)
    ∙ ap (item_writes m.conv call (memory_of m blocks)) (sym c.in-Set.is)

pub returns-then-not-is_lawful_data : goal.returns-then-not-is_lawful_data
returns-then-not-is_lawful_data c = λ blocks held.
    let m = c.args.machine.now in let call = asked_by c.args.entered (prototype c.args.method.now) c.args.values.now in
    let w = data_write call c.in-Fill.at c.in-Fill.offset c.in-Fill.bytes in
    let is : false ≡ is_lawful (memory_of m blocks) w
    = sym c.if-not-is_lawful_data.true ∙ c.is_lawful_data.ensures blocks c.args.entered held
    ∙ ap (λ bytes. is_lawful (memory_of m blocks) (data_write call c.in-Fill.at c.in-Fill.offset bytes)) c.as_slice.ensures in
    ap (λ t. cond t (Some (w ∷ [])) None) is ∙ ap (item_writes m.conv call (memory_of m blocks)) (sym c.in-Fill.is)

pub returns-else-not-is_lawful_data : goal.returns-else-not-is_lawful_data
returns-else-not-is_lawful_data c = λ blocks held.
    let m = c.args.machine.now in let call = asked_by c.args.entered (prototype c.args.method.now) c.args.values.now in
    let w = data_write call c.in-Fill.at c.in-Fill.offset c.in-Fill.bytes in
    let is : true ≡ is_lawful (memory_of m blocks) w
    = sym c.if-not-is_lawful_data.false ∙ c.is_lawful_data.ensures blocks c.args.entered held
    ∙ ap (λ bytes. is_lawful (memory_of m blocks) (data_write call c.in-Fill.at c.in-Fill.offset bytes)) c.as_slice.ensures in
    ap (λ item. Some (planned_for m.conv call item 0)) c.in-Fill.is
    ∙ ap (λ t. cond t (Some (w ∷ [])) None) is ∙ ap (item_writes m.conv call (memory_of m blocks)) (sym c.in-Fill.is)
