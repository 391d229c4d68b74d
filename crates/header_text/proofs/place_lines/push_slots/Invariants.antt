use Rattle.std.proofs.Common.{◌≡◌, ◌+◌, ◌++◌, drop}
use Rattle.std.specs.List.{enumerate_from, flat_map}
use Rattle.header_text.specs.Header.{ended}
use Rattle.header_text.specs.PlacesText.{slot_places}
use Rattle.header_text.proofs.place_lines.push_slots.Given as goal

abbrev pub invariant-loop-slot : goal.invariant-loop-slot
invariant-loop-slot g l = record {
  number : l.number ≡ l.first + l.slot-index;
  text : l.text ++ flat_map (λ s. ended (slot_places g.C.Convention.CONV s)) (enumerate_from l.number (drop l.slot-index l.slots)) ≡
      l.fn.text ++ flat_map (λ s. ended (slot_places g.C.Convention.CONV s)) (enumerate_from l.first l.slots);
}
