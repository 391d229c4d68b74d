-- What a call of a replier does, from what its parts do.
use Rattle.std.proofs.Common.{◌≡◌, ℕ, true, ◌&&◌, cond, eqb, List, length, Option, Some, sym, subst, ap, ◌∙◌, arith}
use Rattle.std.proofs.lemmas.Bool.{true≢false}
use Rattle.std.proofs.lemmas.Grind.{common_steps}
use Rattle.call_scripts.specs.declared.script.ReplyItem.{ReplyItem}
use Rattle.object_memory.specs.Memory.{MachineView}
use Rattle.call_replies.specs.Blocks.{Block, HoldsBlocks}
use Rattle.call_replies.specs.Items.{takes_items}
use Rattle.call_replies.specs.Repliers.{Acts, ReplierView, answer_to, items_of, suits}
use Rattle.call_replies.specs.Reply.{Asked, Replied, invalid_pointer, reply, unchanged}
use Rattle.call_replies.specs.Writes.{IsReply, LeavesOthers, SameButBytes, has_cells, memory_of}

pub suits-where : (replier : ReplierView) (call : Asked) (cells : List ℕ) → length call.proto ≡ replier.positions
    → takes_items call.proto (items_of replier.rule) ≡ true → has_cells call cells ≡ true → suits replier call cells ≡ true
suits-where replier call cells count takes has =
    let same : eqb (length call.proto) replier.positions ≡ true = grind (arith, common_steps) in
    (λ j. same j && takes j && has j)

-- a call that suits a replier with a rule is answered by the rule
pub acts-by_rule : (replier : ReplierView) (call : Asked) (m after : MachineView) (result : ℕ) (rule : List ReplyItem) → replier.rule ≡ Some rule
    → suits replier call m.cells ≡ true
    → ((blocks : List Block) → HoldsBlocks m blocks → IsReply (reply m.conv (Some rule) call (memory_of m blocks)) after result)
    → LeavesOthers call rule m after → SameButBytes m after → Acts replier call m after result
acts-by_rule replier call m after result rule is fits replies others rest = record {
  replies = λ blocks held. subst (λ (r : Replied). IsReply r after result) (sym (by_rule blocks)) (replies blocks held);
  refuses = λ no. absurd (true≢false (sym fits ∙ no));
  others_stay = subst (λ (o : Option (List ReplyItem)). LeavesOthers call (items_of o) m after) (sym is) others;
  rest_stays = rest;
}
  where
    by_rule : (blocks : List Block) → answer_to m.conv replier call (memory_of m blocks) ≡ reply m.conv (Some rule) call (memory_of m blocks)
    by_rule blocks =
        ap (λ t. cond t (reply m.conv replier.rule call (memory_of m blocks)) (unchanged (memory_of m blocks) invalid_pointer)) fits
        ∙ ap (λ o. reply m.conv o call (memory_of m blocks)) is
