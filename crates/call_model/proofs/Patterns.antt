-- The own bytes of a pattern.
use Rattle.std.proofs.Common.{◌≡◌, ℕ, ◌*◌, ◌%◌, ◌^◌, ◌<◌, ◌≤◌, ap, sym, ◌∙◌, arith}
use Rattle.std.proofs.lemmas.Grind.{common_steps}
use Rattle.call_model.specs.declared.ctypes.CType.{CType}
use Rattle.call_model.specs.declared.ctypes.CType.TheVariants.{I8, I16, I32, I64, Ptr}
use Rattle.call_model.specs.declared.places.Conv.{Conv}
use Rattle.call_model.specs.declared.places.Conv.TheVariants.{SysV64, I386, Aapcs64, Ms64, Aapcs32}
use Rattle.call_model.specs.Placement.{space_of, word_of}
use Rattle.call_model.specs.Values.{own_len, extended, canon}
use Rattle.xp_base.specs.LittleEndian.{low_bytes}
use Rattle.xp_base.proofs.LittleEndian.{low_bytes-mod}

-- numbers that are the same up to n bytes have the same low bytes
pub same-low_bytes : (n a b : ℕ) → a % 2 ^ (8 * n) ≡ b % 2 ^ (8 * n)
    → low_bytes n a ≡ low_bytes n b
same-low_bytes n a b e = sym (low_bytes-mod n a) ∙ ap (low_bytes n) e ∙ low_bytes-mod n b

-- a value's own bytes fit its space on the stack
pub own-fits : (conv : Conv) (t : CType) → own_len conv t ≤ space_of conv t
own-fits SysV64 I8 = omega arith
own-fits SysV64 t = omega arith
own-fits I386 I8 = omega arith
own-fits I386 t = omega arith
own-fits Aapcs64 I8 = omega arith
own-fits Aapcs64 t = omega arith
own-fits Ms64 I8 = omega arith
own-fits Ms64 t = omega arith
own-fits Aapcs32 I8 = omega arith
own-fits Aapcs32 t = omega arith

-- a pointer's pattern is its own bytes
word-own : (conv : Conv) (v : ℕ)
    → canon conv Ptr v % 2 ^ (8 * word_of conv) ≡ v % 2 ^ (8 * word_of conv)
word-own SysV64 v = omega arith
word-own I386 v = omega arith
word-own Aapcs64 v = omega arith
word-own Ms64 v = omega arith
word-own Aapcs32 v = omega arith

-- a canonical pattern has the value's own bytes
pub canon-own : (conv : Conv) (t : CType) (v : ℕ)
    → canon conv t v % 2 ^ (8 * own_len conv t) ≡ v % 2 ^ (8 * own_len conv t)
canon-own conv I8 v = grind (arith, common_steps)
canon-own conv I16 v = grind (arith, common_steps)
canon-own conv I32 v = grind (arith, common_steps)
canon-own conv I64 v = grind (arith, common_steps)
canon-own conv Ptr v = word-own conv v
canon-own conv t v = omega arith

-- own bytes are below the bound of their length, and a canonical pattern fits 8 bytes
word-below : (conv : Conv) (v : ℕ) → canon conv Ptr v < 2 ^ 64
word-below SysV64 v = omega arith
word-below I386 v = omega arith
word-below Aapcs64 v = omega arith
word-below Ms64 v = omega arith
word-below Aapcs32 v = omega arith

pub canon-below : (conv : Conv) (t : CType) (v : ℕ) → canon conv t v < 2 ^ 64
canon-below conv I8 v = grind (arith, common_steps)
canon-below conv I16 v = grind (arith, common_steps)
canon-below conv I32 v = grind (arith, common_steps)
canon-below conv I64 v = grind (arith, common_steps)
canon-below conv Ptr v = word-below conv v
canon-below conv t v = omega arith

-- values with the same own bytes have one canonical pattern
pub canon-same : (conv : Conv) (t : CType) (a b : ℕ)
    → a % 2 ^ (8 * own_len conv t) ≡ b % 2 ^ (8 * own_len conv t) → canon conv t a ≡ canon conv t b
canon-same conv t a b e = ap (extended conv t) e

-- the canonical pattern of a canonical pattern is itself
pub canon-canon : (conv : Conv) (t : CType) (v : ℕ) → canon conv t (canon conv t v) ≡ canon conv t v
canon-canon conv t v = canon-same conv t (canon conv t v) v (canon-own conv t v)

-- what stands of a value in its own bytes gives its canonical pattern
pub extended-own : (conv : Conv) (t : CType) (own v : ℕ) → own ≡ v % 2 ^ (8 * own_len conv t)
    → extended conv t own ≡ canon conv t v
extended-own conv t own v e = ap (extended conv t) e
