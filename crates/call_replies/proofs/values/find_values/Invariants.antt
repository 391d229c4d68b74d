use Rattle.std.proofs.Common.{◌≡◌, List, Some, length, take}
use Rattle.invoke_by_index.specs.Methods.{prototype}
use Rattle.call_replies.specs.Blocks.{Block, HoldsBlocks}
use Rattle.call_replies.specs.Reply.{writes_of}
use Rattle.call_replies.specs.Writes.{asked_by, memory_of, planned}
use Rattle.call_replies.proofs.values.find_values.Given as goal

-- the items so far have their values and their writes
abbrev pub invariant-loop-i : goal.invariant-loop-i
invariant-loop-i l = record {
  count : length l.sums ≡ length l.rule;
  found : (blocks : List Block) → HoldsBlocks l.machine blocks
      → writes_of l.machine.conv (asked_by l.entered (prototype l.method) l.values) (memory_of l.machine blocks) (take l.i l.rule)
      ≡ Some (planned l.machine.conv (asked_by l.entered (prototype l.method) l.values) (take l.i l.rule) (take l.i l.sums));
}
