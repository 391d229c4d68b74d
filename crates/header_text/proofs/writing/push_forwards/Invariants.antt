use Rattle.std.proofs.Common.{◌≡◌, ◌≤◌, ◌++◌, drop, length}
use Rattle.header_text.specs.Parts.{forwards_text}
use Rattle.header_text.proofs.writing.push_forwards.Given as goal

-- what is written and what is left are all, and what is written is short
abbrev pub invariant-loop-iface : goal.invariant-loop-iface
invariant-loop-iface l = record {
  text : l.text ++ forwards_text (drop l.iface-index l.ifaces)
      ≡ l.fn.text ++ forwards_text l.ifaces;
  fits : length l.text ≤ 8388608;
}
