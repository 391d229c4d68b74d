use Rattle.std.proofs.Common.{◌≡◌, ◌+◌, ◌++◌, drop, length}
use Rattle.lib_model.specs.Emit.{directory_text, entry_text, part_size, part_text, placed, pool_text}
use Rattle.typelib_writer.proofs.interfaces.put_interfaces.Given as goal

-- what is written and the interfaces that are left are all of them, in the pool and in the directory
abbrev pub invariant-loop-iface : goal.invariant-loop-iface
invariant-loop-iface l = record {
  pool : l.pool
      ++ placed part_text part_size (length l.pool + 1) (drop l.iface-index l.ifaces) ≡ pool_text l.ifaces;
  directory : l.directory
      ++ placed entry_text part_size (length l.pool + 1) (drop l.iface-index l.ifaces) ≡ directory_text l.ifaces;
}
