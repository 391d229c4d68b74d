-- What a reply leaves on a machine is what the definitions say.
use Rattle.std.proofs.Common.{◌≡◌, ℕ, true, List, Option, Some, None, refl, sym, ap, subst, ◌∙◌}
use Rattle.call_scripts.specs.declared.script.ReplyItem.{ReplyItem}
use Rattle.object_memory.specs.Memory.{MachineView, IsLaidOut}
use Rattle.call_replies.specs.Blocks.{Block, HoldsBlocks}
use Rattle.call_replies.specs.Items.{takes_items}
use Rattle.call_replies.specs.Reply.{Asked, Write, invalid_pointer, reply, reply_by, result_of, unchanged, writes_of}
use Rattle.call_replies.specs.Writes.{IsReply, after_writes, has_cells, memory_of}
use Rattle.call_replies.proofs.Lawful.{AreAllowed, is_memory-writes}
use Rattle.call_replies.proofs.Plans.{rule_allowed}

module _ (m : MachineView) (blocks : List Block) (held : HoldsBlocks m blocks) (call : Asked) where
  -- an answer that changes nothing
  pub is_reply-unchanged : (n result : ℕ) → result ≡ n → IsReply (unchanged (memory_of m blocks) n) m result
  is_reply-unchanged n result is = record { result_is = is; cells_are = refl; holds = held }

  -- where an item has no value or no lawful target
  pub is_reply-none : (rule : List ReplyItem) (result : ℕ) → result ≡ invalid_pointer → writes_of m.conv call (memory_of m blocks) rule ≡ None
      → IsReply (reply m.conv (Some rule) call (memory_of m blocks)) m result
  is_reply-none rule result is none =
      subst (λ (o : Option (List Write)). IsReply (reply_by (memory_of m blocks) (result_of rule) o) m result) (sym none) (is_reply-unchanged invalid_pointer result is)

  -- where all are written
  pub is_reply-some : (rule : List ReplyItem) (writes : List Write) (after : MachineView) (result : ℕ) → IsLaidOut m
      → has_cells call m.cells ≡ true → takes_items call.proto rule ≡ true
      → writes_of m.conv call (memory_of m blocks) rule ≡ Some writes → after ≡ after_writes m writes → result ≡ result_of rule
      → IsReply (reply m.conv (Some rule) call (memory_of m blocks)) after result
  is_reply-some rule writes after result laid cells takes are after_is is =
      let allowed : AreAllowed m writes = rule_allowed m blocks held m.conv call rule writes cells takes are in
      let left = is_memory-writes m (memory_of m blocks) writes laid (record { cells_are = refl; holds = held }) allowed in
      subst (λ (o : Option (List Write)). IsReply (reply_by (memory_of m blocks) (result_of rule) o) after result) (sym are)
      (record {
        result_is = is;
        cells_are = ap (λ (k : MachineView). k.cells) after_is ∙ left.cells_are;
        holds = subst (λ (k : MachineView). HoldsBlocks k (reply_by (memory_of m blocks) (result_of rule) (Some writes)).memory.blocks) (sym after_is) left.holds;
      })
