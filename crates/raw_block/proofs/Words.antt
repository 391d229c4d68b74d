-- Numbers in a block, the low byte first.
use Rattle.std.proofs.Common.{◌≡◌, ℕ, ◌+◌, ◌≤◌, List, length, ap, ◌∙◌, arith, length-take, length-drop}
use Rattle.std.specs.Int.{Width, byte_len, from_le_bytes, to_le_bytes}
use Rattle.std.specs.Prelude.{slice_range}
use Rattle.xp_base.specs.LittleEndian.{low_bytes, number_of}
use Rattle.xp_base.proofs.LittleEndian.{from_le_bytes-number_of, to_le_bytes-low_bytes}
use Rattle.raw_block.specs.Bytes.{overwritten}

-- the bytes of a number of this width were written
pub stored : (w : Width) (old new bytes : List ℕ) (at v : ℕ) → bytes ≡ to_le_bytes w v → new ≡ overwritten old at bytes → new ≡ overwritten old at (low_bytes (byte_len w) v)
stored w old new bytes at v are written = written ∙ ap (overwritten old at) (are ∙ to_le_bytes-low_bytes w v)
