-- C types: their class and their size.
use Rattle.std.specs.Prelude.{ℕ, Bool, true, false, not, List, count_by}
use Rattle.call_model.specs.declared.ctypes.CType.{CType}
use Rattle.call_model.specs.declared.ctypes.CType.TheVariants.{I8, I16, I32, I64, U64, F32, F64}

-- class float: F32 and F64. All other types are of class integer
abbrev pub is_float : CType → Bool
is_float F32 = true
is_float F64 = true
is_float _ = false

-- the types that take 8 bytes under every convention: I64, U64 and F64
abbrev pub is_wide : CType → Bool
is_wide I64 = true
is_wide U64 = true
is_wide F64 = true
is_wide _ = false

-- the types whose values have a sign
abbrev pub is_signed : CType → Bool
is_signed I8 = true
is_signed I16 = true
is_signed I32 = true
is_signed I64 = true
is_signed _ = false

-- how many of the types are of class float, and how many of class integer
abbrev pub floats : List CType → ℕ
floats types = count_by is_float types

abbrev pub integers : List CType → ℕ
integers types = count_by (λ t. not (is_float t)) types
