-- The value of a constant's expression: over the whole numbers, where each number and each
-- partial result is in the range of 64 bits with a sign.
use Rattle.std.specs.Prelude.{ℕ, suc, ◌-◌, ◌/◌, ◌^◌, Bool, true, false, not, List, [], ◌∷◌, Option, Some, None, ℤ, pos, negsuc, ◌+ℤ◌, ◌-ℤ◌, ◌*ℤ◌, bit_or, nat_lt, ◌==◌, option_map, option_and_then, is_some, is_none, slice_index, drop, if◌then◌else◌}
use Rattle.std.specs.Str.Parse.{digits_value}
use Rattle.xp_base.specs.declared.kinds.ConstKind.{ConstKind}
use Rattle.xp_base.specs.declared.kinds.ConstKind.TheVariants as kind
use Rattle.idl_grammar.specs.declared.tree.ExprStep.{ExprStep}
use Rattle.idl_grammar.specs.declared.tree.ExprStep.TheVariants as step
use Rattle.idl_meaning.specs.declared.scope.Meant.{Meant}
use Rattle.idl_meaning.specs.declared.scope.Meant.TheVariants as meant
use Rattle.idl_meaning.specs.Meaning.{Sense, Unknown, Nothing, Means}

-- the constants that can be named at a place
abbrev pub Values : Type 0
Values = List ℕ → Option ℤ

-- -2^63 to 2^63 - 1
abbrev pub in_64_bits : ℤ → Bool
in_64_bits (pos n) = nat_lt n (2 ^ 63)
in_64_bits (negsuc n) = nat_lt n (2 ^ 63)

-- the number, where it is in that range
abbrev pub ranged : ℤ → Option ℤ
ranged z = if in_64_bits z then Some z else None

-- the number that a spelling writes: hexadecimal digits behind `0x`, or decimal digits
abbrev pub spelled : List ℕ → ℕ
spelled text =
    if slice_index text 1 == 120 then digits_value 16 (drop 2 text) else digits_value 10 text

-- the 64 bits of a number in two's complement, and the number of such bits
abbrev pub bits_of : ℤ → ℕ
bits_of (pos n) = n
bits_of (negsuc n) = 2 ^ 64 - suc n

abbrev pub number_of_bits : ℕ → ℤ
number_of_bits n = if nat_lt n (2 ^ 63) then pos n else negsuc (2 ^ 64 - suc n)

abbrev pub or_bits : ℤ → ℤ → ℤ
or_bits a b = number_of_bits (bit_or (bits_of a) (bits_of b))

-- how far is shifted: 0 to 63
abbrev pub shift_count : ℤ → Option ℕ
shift_count (pos n) = if nat_lt n 64 then Some n else None
shift_count (negsuc n) = None

-- divided by a power of two, rounding down
abbrev pub over_power : ℤ → ℕ → ℤ
over_power (pos n) count = pos (n / 2 ^ count)
over_power (negsuc n) count = negsuc (n / 2 ^ count)

abbrev pub shifted_left : ℤ → ℤ → Option ℤ
shifted_left a b = option_and_then (λ count. ranged (a *ℤ pos (2 ^ count))) (shift_count b)

abbrev pub shifted_right : ℤ → ℤ → Option ℤ
shifted_right a b = option_map (λ count. over_power a count) (shift_count b)

-- ---- steps, on the values that wait for their operator, the latest first

-- a value put before those that wait
abbrev pub put_on : List ℤ → ℤ → List ℤ
put_on below v = v ∷ below

-- the two latest values joined to one
abbrev pub joined : (ℤ → ℤ → Option ℤ) → List ℤ → Option (List ℤ)
joined op [] = None
joined op (b ∷ []) = None
joined op (b ∷ a ∷ below) = option_map (put_on below) (op a b)

-- the latest value negated
abbrev pub negated : List ℤ → Option (List ℤ)
negated [] = None
negated (a ∷ below) = option_map (put_on below) (ranged (pos 0 -ℤ a))

-- what an operator makes of two values
abbrev pub binary : ExprStep → ℤ → ℤ → Option ℤ
binary step.Or a b = Some (or_bits a b)
binary step.Shl a b = shifted_left a b
binary step.Shr a b = shifted_right a b
binary step.Add a b = ranged (a +ℤ b)
binary step.Sub a b = ranged (a -ℤ b)
binary step.Mul a b = ranged (a *ℤ b)
binary _ a b = None

-- the values behind a step; None where there is no such constant, or a number is out of range
abbrev pub advanced : Values → ExprStep → List ℤ → Option (List ℤ)
advanced known (step.Number text) values = option_map (put_on values) (ranged (pos (spelled text)))
advanced known (step.Name name) values = option_map (put_on values) (known name)
advanced known step.Neg values = negated values
advanced known operator values = joined (binary operator) values

-- the one value that is left
abbrev pub only : List ℤ → Option ℤ
only [] = None
only (v ∷ []) = Some v
only (v ∷ w ∷ more) = None

abbrev pub run : Values → Option (List ℤ) → List ExprStep → Option ℤ
run known None steps = None
run known (Some values) [] = only values
run known (Some values) (s ∷ more) = run known (advanced known s values) more

-- the value of an expression, whose steps are in postfix order
abbrev pub value_of : Values → List ExprStep → Option ℤ
value_of known steps = run known (Some []) steps

-- the step names no constant that is known
abbrev pub is_unknown_name : Values → ExprStep → Bool
is_unknown_name known (step.Name name) = is_none (known name)
is_unknown_name known _ = false

-- ---- types of constants

-- `short`, `unsigned short`, `long` or `unsigned long`
abbrev pub kind_by_tag : ℕ → Option ConstKind
kind_by_tag tag =
    if tag == 1 then Some kind.I16
    else if tag == 5 then Some kind.U16
    else if tag == 2 then Some kind.I32
    else if tag == 6 then Some kind.U32
    else None

abbrev pub kind_of : Meant → Option ConstKind
kind_of (meant.Basic tag) = kind_by_tag tag
kind_of _ = None

-- the kind of a constant of this type, where there is one
abbrev pub kind_by : Sense → Option ConstKind
kind_by Unknown = None
kind_by Nothing = None
kind_by (Means m) = kind_of m

abbrev pub is_const_type : Meant → Bool
is_const_type m = is_some (kind_of m)

-- the number is in the range of the kind
abbrev pub in_range : ConstKind → ℤ → Bool
in_range kind.I16 (pos n) = nat_lt n (2 ^ 15)
in_range kind.I16 (negsuc n) = nat_lt n (2 ^ 15)
in_range kind.I32 (pos n) = nat_lt n (2 ^ 31)
in_range kind.I32 (negsuc n) = nat_lt n (2 ^ 31)
in_range kind.U16 (pos n) = nat_lt n (2 ^ 16)
in_range kind.U16 (negsuc n) = false
in_range kind.U32 (pos n) = nat_lt n (2 ^ 32)
in_range kind.U32 (negsuc n) = false

-- A result that is no value, or not in the range of its kind. Where the type is that of no
-- constant there is no range.
abbrev pub is_outside : Option ConstKind → Option ℤ → Bool
is_outside kind None = true
is_outside None (Some v) = false
is_outside (Some kind) (Some v) = not (in_range kind v)
