-- Which numbers a C type takes.
use Rattle.std.specs.Prelude.{ℕ, ◌-◌, ◌*◌, ◌^◌, ◌<◌, ◌&&◌, Bool, ℤ, pos, neg_ℤ, int_le}
use Rattle.call_model.specs.declared.ctypes.CType.{CType}
use Rattle.call_model.specs.declared.ctypes.CType.TheVariants as c
use Rattle.call_model.specs.declared.places.Conv.{Conv}
use Rattle.call_model.specs.Placement.{word_of}

-- the greatest number of so many bits, with a sign and without
abbrev pub most_signed : ℕ → ℤ
most_signed bits = pos (2 ^ (bits - 1) - 1)

abbrev pub most_unsigned : ℕ → ℤ
most_unsigned bits = pos (2 ^ bits - 1)

-- the least number of a type
abbrev pub least : CType → ℤ
least c.I8 = neg_ℤ (pos (2 ^ 7))
least c.I16 = neg_ℤ (pos (2 ^ 15))
least c.I32 = neg_ℤ (pos (2 ^ 31))
least c.I64 = neg_ℤ (pos (2 ^ 63))
least _ = pos 0

-- the greatest number of a type; a float is taken by its bits, and an address has a word
abbrev pub greatest : Conv → CType → ℤ
greatest conv c.I8 = most_signed 8
greatest conv c.I16 = most_signed 16
greatest conv c.I32 = most_signed 32
greatest conv c.I64 = most_signed 64
greatest conv c.U8 = most_unsigned 8
greatest conv c.U16 = most_unsigned 16
greatest conv c.U32 = most_unsigned 32
greatest conv c.U64 = most_unsigned 64
greatest conv c.F32 = most_unsigned 32
greatest conv c.F64 = most_unsigned 64
greatest conv c.Bool = most_unsigned 1
greatest conv c.Char = most_unsigned 8
greatest conv c.WChar = most_unsigned 16
greatest conv c.Ptr = most_unsigned (8 * word_of conv)

-- the numbers of a type
abbrev pub in_range : Conv → CType → ℤ → Bool
in_range conv t n = int_le (least t) n && int_le n (greatest conv t)

-- a number that 64 bits hold, with a sign or without
abbrev pub is_pattern : ℤ → Bool
is_pattern n = int_le (neg_ℤ (pos (2 ^ 63))) n && int_le n (most_unsigned 64)

-- a number that a word of the convention holds, as an address
abbrev pub FitsWord : Conv → ℕ → Type 0
FitsWord conv n = n < 2 ^ (8 * word_of conv)
