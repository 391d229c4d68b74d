-- What the parts of a block own, and what a `&` to them holds.
use Rattle.std.specs.Prelude.{ℕ, ◌+◌, ◌^◌, List, [], ◌∷◌, length}
use base.Fraction.{full_share}
use base.Fml.{Lft, Fml, ffalse, fsep, flt, froom}
use mir.Syntax.{Ty, ty_int, ty_array, w8}
use mir.Raw.{raw}
use denote.Builtin.{u8}
use denote.Memory.{part_at}
use denote.Sharing.{said, beside}
use denote.Slice.{elements_shared}
use denote.RawPtr.{Ptr, block_ptr, null_ptr}

-- the bytes xs from the place o of the block b on, and room for more after them
abbrev pub bytes_at : ℕ → ℕ → List ℕ → ℕ → Fml
bytes_at b o [] room = froom (ty_array (ty_int w8) room) b o
bytes_at b o (x ∷ xs) room = fsep (part_at u8 full_share x b o) (bytes_at b (o + 1) xs room)

-- bytes and room are fewer than 2 ^ 63
abbrev pub fit : List ℕ → ℕ → Fml
fit xs room = flt (length xs + room) (2 ^ 63)

abbrev pub run_owns : Ptr → List ℕ → ℕ → Fml
run_owns (block_ptr b o) xs room = fsep (fit xs room) (bytes_at b o xs room)
run_owns null_ptr xs room = ffalse

-- a `&` reaches the bytes, and not the room
abbrev pub run_lent : Ptr → List ℕ → ℕ → Lft → Fml
run_lent (block_ptr b o) xs room = beside (said (fit xs room)) (elements_shared u8 xs b o)
run_lent null_ptr xs room = said ffalse

-- the allocator's token for a block of n bytes
abbrev pub deed_owns : (Ty → Ptr → Fml) → Ptr → ℕ → Fml
deed_owns token p n = token (raw (ty_array (ty_int w8) n)) p
