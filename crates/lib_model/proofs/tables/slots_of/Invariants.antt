use Rattle.std.proofs.Common.{◌≡◌, ◌++◌, drop}
use Rattle.std.specs.Prelude.{map}
use Rattle.lib_model.specs.Table.{slot_of}
use Rattle.lib_model.proofs.tables.slots_of.Given as goal

-- the slots so far and the methods that are left are all of them
abbrev pub invariant-loop-method : goal.invariant-loop-method
invariant-loop-method l =
    l.slots ++ map slot_of (drop l.method-index l.methods) ≡ map slot_of l.methods
