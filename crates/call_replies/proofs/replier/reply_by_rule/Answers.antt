use Rattle.std.proofs.Common.{cond, Some, None, sym, subst, ap, ◌∙◌}
use Rattle.invoke_by_index.specs.Methods.{prototype}
use Rattle.object_memory.specs.Memory.{MachineView, number_at}
use Rattle.call_replies.specs.Writes.{asked_by, planned}
use Rattle.call_replies.proofs.Lawful.{Keeps, keeps-writes, rest-stays}
use Rattle.call_replies.proofs.Replied.{is_reply-some}
use Rattle.call_replies.proofs.Spared.{others-stay}
use Rattle.call_replies.proofs.replier.reply_by_rule.Goals as goal

pub returns-clause-replies : goal.returns-clause-replies
returns-clause-replies c = λ blocks held.
    let m = c.args.machine.now in let call = asked_by c.args.entered (prototype c.args.method.now) c.args.values.now in
    let rule = c.args.rule.now in let writes = planned m.conv call rule c.find_values.new.sums in
    is_reply-some m blocks held call rule writes c.write_items.new.machine c.result_of.result c.laid_out.ensures c.requires.cells c.requires.suits
    (c.find_values.ensures blocks held ∙ ap (λ t. cond t (Some writes) None) c.if-not-find_values.false) c.write_items.ensures c.result_of.ensures

pub returns-clause-others_stay : goal.returns-clause-others_stay
returns-clause-others_stay c = λ address misses.
    let m = c.args.machine.now in let call = asked_by c.args.entered (prototype c.args.method.now) c.args.values.now in
    ap (λ (k : MachineView). number_at k address 1) c.write_items.ensures ∙ others-stay m m.conv call c.args.rule.now c.find_values.new.sums address misses

pub returns-clause-rest_stays : goal.returns-clause-rest_stays
returns-clause-rest_stays c =
    let m = c.args.machine.now in let call = asked_by c.args.entered (prototype c.args.method.now) c.args.values.now in
    rest-stays m c.write_items.new.machine
    (subst (Keeps m) (sym c.write_items.ensures) (keeps-writes m (planned m.conv call c.args.rule.now c.find_values.new.sums)))
