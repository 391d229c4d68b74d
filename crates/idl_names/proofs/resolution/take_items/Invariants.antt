use Rattle.std.proofs.Common.{◌≡◌, ◌≤◌, ◌+◌, drop, length}
use Rattle.idl_meaning.specs.Scopes as scopes
use Rattle.idl_meaning.specs.Faults as spec
use Rattle.idl_meaning.specs.Counted.{AreCountedItems}
use Rattle.idl_names.specs.States.{view}
use Rattle.idl_names.proofs.resolution.take_items.Given as goal

abbrev pub invariant-loop-i : goal.invariant-loop-i
invariant-loop-i l = record {
  same_faults : spec.file_faults l.file 0 (view l.initial.state) l.items ≡ spec.file_faults l.file l.i (view l.state) (drop l.i l.items);
  same_end : scopes.after_items l.file 0 (view l.initial.state) l.items ≡ scopes.after_items l.file l.i (view l.state) (drop l.i l.items);
  few : length (view l.state).ifaces ≤ length (view l.initial.state).ifaces + l.i;
  counted : AreCountedItems (drop l.i l.items);
  within : l.i ≤ length l.items;
}
