-- How a chain of parents is climbed.
use Rattle.std.specs.List.{list_any}
use Rattle.std.specs.Prelude.{Bool, ◌==◌, ℕ, zero, suc, List, sum_by}
use Rattle.lib_model.specs.declared.contents.Iface.{Iface}
use Rattle.lib_model.specs.Valid.{first_of_chain, own_slots, parent_of}

-- the number that n steps to the parent lead to; 0 where the chain has ended
unfoldable pub climbed : List Iface → ℕ → ℕ → ℕ
climbed ifaces zero k = k
climbed ifaces (suc n) k = climbed ifaces n (parent_of ifaces k)

abbrev pub slots_within : List Iface → ℕ → ℕ → ℕ
slots_within ifaces n k = sum_by (own_slots ifaces) (first_of_chain ifaces n k)

-- whether a number is among the first n of a chain
abbrev pub meets : List Iface → ℕ → ℕ → ℕ → Bool
meets ifaces from n k = list_any (λ j. j == from) (first_of_chain ifaces n k)
