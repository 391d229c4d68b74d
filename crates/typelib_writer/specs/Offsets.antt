-- Where the parts of an interface stand in the pool.
use Rattle.std.specs.Prelude.{◌≡◌, ℕ, List, ◌++◌}
use Rattle.lib_model.specs.declared.contents.Iface.{Iface}
use Rattle.lib_model.specs.Emit.{descriptor_offset, four_bytes, namespace_offset}
use Rattle.typelib_writer.specs.declared.interfaces.Offsets.{Offsets}

-- the offsets of an interface whose part of the pool begins at offset k
pub record AreOffsets (k : ℕ) (i : Iface) (o : Offsets) : Type 0 where
  pub name : o.name ≡ k
  pub namespace : o.namespace ≡ namespace_offset k i
  pub descriptor : o.descriptor ≡ descriptor_offset k i

-- the fields of an entry that are offsets
abbrev pub offset_fields : Offsets → List ℕ
offset_fields o = four_bytes o.name ++ (four_bytes o.namespace ++ four_bytes o.descriptor)
