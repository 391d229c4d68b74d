use Rattle.std.proofs.Common.{◌≡◌, ◌++◌, drop}
use Rattle.std.specs.Prelude.{map}
use Rattle.lib_model.specs.Table.{table_iface}
use Rattle.lib_model.proofs.tables.table_of.Given as goal

-- the interfaces so far and those that are left are all of them
abbrev pub invariant-loop-iface : goal.invariant-loop-iface
invariant-loop-iface l =
    l.ifaces ++ map table_iface (drop l.iface-index l.lib.ifaces) ≡ map table_iface l.lib.ifaces
