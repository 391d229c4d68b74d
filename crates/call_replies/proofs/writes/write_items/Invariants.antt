use Rattle.std.proofs.Common.{◌≡◌, drop}
use Rattle.invoke_by_index.specs.Methods.{prototype}
use Rattle.call_replies.specs.Writes.{after_writes, asked_by, planned}
use Rattle.call_replies.proofs.writes.write_items.Given as goal

-- what the items that remain write leaves what all write
abbrev pub invariant-loop-i : goal.invariant-loop-i
invariant-loop-i l = record {
  conv_is : l.machine.conv ≡ l.fn.machine.conv;
  rest : after_writes l.machine (planned l.fn.machine.conv (asked_by l.entered (prototype l.method) l.values) (drop l.i l.rule) (drop l.i l.sums))
      ≡ after_writes l.fn.machine (planned l.fn.machine.conv (asked_by l.entered (prototype l.method) l.values) l.rule l.sums);
}
