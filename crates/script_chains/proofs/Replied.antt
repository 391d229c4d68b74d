-- The reply of an object by its rule, as a replier makes it.
use Rattle.std.proofs.Common.{◌≡◌, ◌∙◌, ℕ, ◌==◌, ◌&&◌, Bool, true, List, length, Option, Some, None, if◌then◌else◌, ap, subst}
use Rattle.std.proofs.lemmas.Bool.{eq-eqb}
use Rattle.call_scripts.specs.declared.script.ReplyItem.{ReplyItem}
use Rattle.descriptor_reader.specs.Views.{MethodOf}
use Rattle.invoke_by_index.specs.Methods.{prototype}
use Rattle.object_memory.specs.Memory.{MachineView}
use Rattle.stub_dispatch.specs.Calls.{call_by}
use Rattle.call_replies.specs.Blocks.{Block}
use Rattle.call_replies.specs.Items.{takes_items}
use Rattle.call_replies.specs.Repliers.{Acts, Reacts, ReplierView, items_of, kept, new_replier, suits}
use Rattle.call_replies.specs.Reply.{Asked, Replied, reply, invalid_pointer, unchanged}
use Rattle.call_replies.specs.Writes.{IsReply, SameButBytes, asked_by, has_cells, memory_of}
use Rattle.script_meaning.specs.State as states
use Rattle.script_objects.specs.declared.rules.Rules.{Rules}
use Rattle.script_objects.specs.Ruling.{known_rules, without}
use Rattle.script_objects.proofs.Kept.{rules-back}
use Rattle.script_chains.specs.declared.visit.Visit.{Visit}
use Rattle.script_chains.specs.Replying.{CanReply, given_back, reply_of}

all-three : (a b c : Bool) → a ≡ true → b ≡ true → c ≡ true → (a && b && c) ≡ true
all-three a b c p q r = λ i. p i && q i && r i

module _ (m : MachineView) (rules : Rules) (method : MethodOf) (visit : Visit) (entered : Bool)
    (blocks : List Block) (b : Block) (values : List ℕ)
    (at : CanReply m rules method visit entered blocks b values)
    (replier after : ReplierView) (m1 : MachineView) (answer positions : ℕ)
    (fresh : replier ≡ new_replier entered (known_rules rules visit.number method.slot) positions)
    (count : length (prototype method) ≡ positions)
    (reacts : Reacts replier m (call_by visit.conv m.frame method visit.number) after m1 answer) where
  abbrev rule : Option (List ReplyItem)
  rule = known_rules rules visit.number method.slot

  abbrev asks : Asked
  asks = asked_by entered (prototype method) values

  -- it reacts as a fresh one to these values
  as-fresh : Reacts (new_replier entered rule positions) m (call_by visit.conv m.frame method visit.number) after m1 answer
  as-fresh = subst (λ (r : ReplierView). Reacts r m (call_by visit.conv m.frame method visit.number) after m1 answer) fresh reacts

  acts : Acts (new_replier entered rule positions) asks m m1 answer
  acts = subst (λ vs. Acts (new_replier entered rule positions) (asked_by entered (prototype method) vs) m m1 answer) at.receives as-fresh.acts

  counts : (length (prototype method) == positions) ≡ true
  counts = eq-eqb (length (prototype method)) positions count

  suited : suits (new_replier entered rule positions) asks m.cells ≡ true
  suited =
      all-three (length (prototype method) == positions) (takes_items (prototype method) (items_of rule)) (has_cells asks m.cells)
      counts at.suits at.has_cells

  pub makes-reply : IsReply (reply_of m rules method visit entered blocks values) m1 answer
  makes-reply =
      subst (λ (r : Replied). IsReply r m1 answer)
      (ap (λ t. if t then reply m.conv rule asks (memory_of m blocks) else unchanged (memory_of m blocks) invalid_pointer) suited)
      (acts.replies blocks at.holds)

  pub keeps-rest : SameButBytes m m1
  keeps-rest = acts.rest_stays

  kept-as : after ≡ record { entered = entered; rule = rule; positions = positions; received = values }
  kept-as =
      as-fresh.keeps
      ∙ ap (λ vs. kept (new_replier entered rule positions) (asked_by entered (prototype method) vs)) at.receives
      ∙ ap (λ t. if t then record { entered = entered; rule = rule; positions = positions; received = values } else new_replier entered rule positions) counts

  pub keeps-values : after.received ≡ values
  keeps-values = ap (λ (r : ReplierView). r.received) kept-as

  pub keeps-rule : after.rule ≡ rule
  keeps-rule = ap (λ (r : ReplierView). r.rule) kept-as

-- the rules are as they were, once the rule that was taken out is put back
pub whole-again : (rules : states.Rules) (object slot : ℕ) (rule : Option states.Rule) → rules object slot ≡ rule
    → given_back (without rules object slot) object slot rule ≡ rules
whole-again rules object slot None is = rules-back.nothing_taken rules object slot is
whole-again rules object slot (Some rule) is = rules-back.put_back rules object slot rule is
