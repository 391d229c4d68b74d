-- How large the number of some bytes is.
use Rattle.std.proofs.Common.{◌≡◌, ℕ, ◌*◌, ◌<◌, ◌^◌, List, length, get_or, subst, ap, arith}
use Rattle.xp_base.specs.LittleEndian.{low_bytes, number_of}
use Rattle.xp_base.proofs.LittleEndian.{length-low_bytes, low_bytes-below, number_of-below, power-bits}

pub number_of-small : (bytes : List ℕ) → ((k : ℕ) → get_or bytes k 0 < 256) → number_of bytes < 2 ^ (8 * length bytes)
number_of-small bytes below = subst (λ k. number_of bytes < k) (power-bits (length bytes)) (number_of-below bytes below)

pub number_of-low_bytes-below : (n v : ℕ) → number_of (low_bytes n v) < 2 ^ (8 * n)
number_of-low_bytes-below n v = subst (λ k. number_of (low_bytes n v) < 2 ^ (8 * k)) (length-low_bytes n v) (number_of-small (low_bytes n v) (low_bytes-below n v))
