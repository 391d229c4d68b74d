use Rattle.std.proofs.Common.{◌≡◌, ◌<◌, [], drop, length}
use Rattle.std.specs.Prelude.{All}
use Rattle.std_collections.specs.Map.{values_of}
use Rattle.header_text.specs.Order.{placed}
use Rattle.header_text.proofs.order.definitions.Given as goal

abbrev pub invariant-loop-k : goal.invariant-loop-k
invariant-loop-k l = record {
  placed : placed l.map.entries l.k (drop l.k l.ifaces) ≡ placed [] 0 l.ifaces;
  within : All (λ number. number < length l.ifaces) (values_of l.map.entries);
}
