use Rattle.std.proofs.Common.{◌≡◌, Some, None, sym, ap, ◌∙◌, arith, take}
use Rattle.std.specs.Prelude.{option_map}
use Rattle.std.proofs.lemmas.List.{length-set}
use Rattle.invoke_by_index.specs.Methods.{prototype}
use Rattle.call_replies.specs.Reply.{item_writes}
use Rattle.call_replies.specs.Writes.{asked_by, memory_of, planned, planned_for}
use Rattle.call_replies.proofs.Found.{more-found-at, none-found-at}
use Rattle.call_replies.proofs.values.find_values.Goals as goal

pub returns-in-None : goal.returns-in-None
returns-in-None c = λ blocks held.
    let m = c.args.machine.now in let call = asked_by c.args.entered (prototype c.args.method.now) c.args.values.now in
    let rule = c.args.rule.now in let i = c.loop-i.i in let item = c.index-rule-i.result in
    let none : item_writes m.conv call (memory_of m blocks) item ≡ None
    = sym (c.item_value.ensures blocks held) ∙ ap (option_map (planned_for m.conv call item)) c.in-None.is in
    none-found-at m.conv call (memory_of m blocks) rule i item (planned m.conv call (take i rule) (take i c.loop-i.sums)) (omega arith) (sym c.index-rule-i.is)
    (c.loop-i.invariant.found blocks held) none

pub loop-i-preserved : goal.loop-i-preserved
loop-i-preserved c = record {
  count = length-set c.loop-i.sums c.loop-i.i c.in-Some.value ∙ c.loop-i.invariant.count;
  found = λ blocks held.
      let m = c.args.machine.now in let call = asked_by c.args.entered (prototype c.args.method.now) c.args.values.now in
      let item = c.index-rule-i.result in
      let one : item_writes m.conv call (memory_of m blocks) item ≡ Some (planned_for m.conv call item c.in-Some.value)
      = sym (c.item_value.ensures blocks held) ∙ ap (option_map (planned_for m.conv call item)) c.in-Some.is in
      more-found-at m.conv call (memory_of m blocks) c.args.rule.now c.loop-i.sums c.loop-i.i item c.in-Some.value (omega arith) c.loop-i.invariant.count (sym c.index-rule-i.is)
      (c.loop-i.invariant.found blocks held) one;
}
