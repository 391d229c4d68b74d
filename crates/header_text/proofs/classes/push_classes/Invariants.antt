use Rattle.std.proofs.Common.{◌≡◌, ◌≤◌, ◌++◌, drop, length}
use Rattle.header_text.specs.Parts.{classes_text}
use Rattle.header_text.proofs.classes.push_classes.Given as goal

-- what is written and what is left are all, and what is written is short
abbrev pub invariant-loop-number : goal.invariant-loop-number
invariant-loop-number l = record {
  text : l.text ++ classes_text l.ifaces (drop l.number-index l.order)
      ≡ l.fn.text ++ classes_text l.ifaces l.order;
  fits : length l.text ≤ 8388608;
}
