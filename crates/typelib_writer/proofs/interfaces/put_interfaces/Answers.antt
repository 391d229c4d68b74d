use Rattle.typelib_writer.proofs.Parts.{pool_next, directory_next}
use Rattle.typelib_writer.proofs.interfaces.put_interfaces.Goals as goal

pub loop-iface-preserved : goal.loop-iface-preserved
loop-iface-preserved c = record {
  pool = pool_next _ _ _ _ _ _ c.loop-iface-test.true c.iface-item.is c.loop-iface.invariant.pool c.in_ok-offsets.ensures.text;
  directory =
      directory_next _ _ c.iface-item.result c.in_ok-offsets.offsets _ _ _ _ _ c.loop-iface-test.true c.iface-item.is c.loop-iface.invariant.directory c.in_ok-offsets.ensures.text
      c.in_ok-offsets.ensures.places c.in_ok-put_entry.ensures;
}
