use Rattle.std.proofs.Common.{◌≡◌, ◌++◌, ◌+◌, drop, length}
use Rattle.std.specs.List.{flat_map}
use Rattle.vtable_layout.specs.Slots.{slots_of_member}
use Rattle.header_text.specs.Parts.{slots_text}
use Rattle.header_text.proofs.members.push_members.Given as goal

-- what is written and what is left are all
abbrev pub invariant-loop-member : goal.invariant-loop-member
invariant-loop-member l = record {
  text : l.text
      ++ slots_text l.ifaces l.slot (flat_map slots_of_member (drop l.member-index l.members))
      ≡ l.fn.text ++ slots_text l.ifaces l.first (flat_map slots_of_member l.members);
  few : l.slot + length (flat_map slots_of_member (drop l.member-index l.members))
      ≡ l.first + length (flat_map slots_of_member l.members);
}
