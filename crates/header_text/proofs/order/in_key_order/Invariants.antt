use Rattle.std.proofs.Common.{◌≡◌, ◌++◌}
use Rattle.std_collections.specs.BTreeMap.{values}
use Rattle.header_text.proofs.order.in_key_order.Given as goal

abbrev pub invariant-loop-number : goal.invariant-loop-number
invariant-loop-number l = l.order ++ l.number-iterator ≡ values l.map
