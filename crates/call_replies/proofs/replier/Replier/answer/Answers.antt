use Rattle.std.proofs.Common.{◌≡◌, true, cond, [], length, Some, sym, subst, ap, ◌∙◌}
use Rattle.invoke_by_index.specs.Methods.{prototype}
use Rattle.call_replies.specs.Items.{takes_items}
use Rattle.call_replies.specs.Repliers.{Acts, ReplierView, items_of}
use Rattle.call_replies.specs.Writes.{asked_by, has_cells}
use Rattle.call_replies.proofs.Acting.{acts-by_rule, suits-where}
use Rattle.call_replies.proofs.replier.Replier.answer.Goals as goal

pub returns-clause-acts : goal.returns-clause-acts
returns-clause-acts c =
    let m = c.args.machine.now in let proto = prototype c.args.method.now in let values = c.args.values.now in
    let after = c.reply_by_rule.new.machine in let result = c.reply_by_rule.result in
    let call = asked_by c.self.inside.entered proto values in
    let cells = c.self.inside.cells.items in
    let before : ReplierView = record {
      entered = c.self.inside.entered;
      rule = c.self.inside.rule;
      positions = length cells;
      received = cond c.self.inside.has_received cells [];
    } in
    let count : length proto ≡ length c.self.inside.cells.items
    = sym c.requires.paired ∙ c.requires.positions ∙ ap (λ (r : ReplierView). r.positions) (sym c.self.view_is) in
    let takes : takes_items proto (items_of c.self.inside.rule) ≡ true
    = ap (takes_items proto) (sym c.items_of-items.ensures) ∙ sym c.takes_items.ensures ∙ c.if-not-takes_items.false in
    let has : has_cells call m.cells ≡ true = sym c.has_cells.ensures ∙ c.if-not-has_cells.false in
    subst (λ (r : ReplierView). Acts r (asked_by r.entered proto values) m after result) c.self.view_is
    (acts-by_rule before call m after result c.as_slice.result.now (c.in-Some.is ∙ ap Some (sym c.as_slice.ensures)) (suits-where before call m.cells count takes has)
    c.reply_by_rule.ensures.replies c.reply_by_rule.ensures.others_stay c.reply_by_rule.ensures.rest_stays)
