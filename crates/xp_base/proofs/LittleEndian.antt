-- Numbers and their bytes, the low byte first.
use Rattle.std.proofs.Common.{◌≡◌, ℕ, zero, suc, ◌+◌, ◌*◌, ◌-◌, ◌/◌, ◌%◌, ◌^◌, ◌<◌, ◌≤◌, List, [], ◌∷◌, ◌++◌, length, take, replicate, get_or, refl, sym, ap, ◌∙◌, arith, mul_assoc, mul_comm}
use Rattle.std.proofs.lemmas.Nat.{mod-pow-add, pow-add}
use Rattle.std.proofs.Math.Nat.{div-div-eq-div-mul, pow-succ'}
use Rattle.std.proofs.lemmas.List.{take_all, length-take}
use Rattle.std.proofs.Math.Seq.{take-suc}
use Rattle.std.specs.Int.{Width, byte_len, byte_at, byte_worth, sum_through, to_le_bytes, from_le_bytes, bytes_low_first}
use Rattle.std.specs.List.{slice_index}
use Rattle.xp_base.specs.LittleEndian.{low_bytes, number_of}

-- there are as many as were asked for
pub length-low_bytes : (n v : ℕ) → length (low_bytes n v) ≡ n
unfolding low_bytes
length-low_bytes zero v = refl
length-low_bytes (suc n) v = ap suc (length-low_bytes n (v / 256))

-- byte i of a number without its lowest byte
pub byte_at-next : (i v : ℕ) → byte_at (suc i) v ≡ byte_at i (v / 256)
byte_at-next zero v = refl
byte_at-next (suc i) v =
    ap (λ k. v / k % 256) (pow-succ' 256 (suc i)) ∙ ap (λ k. k % 256) (sym (div-div-eq-div-mul v 256 (256 ^ suc i)))

-- byte i of a number, as one quotient
pub byte_at-power : (i v : ℕ) → byte_at i v ≡ v / 256 ^ i % 256
byte_at-power zero v = omega arith
byte_at-power (suc i) v = refl

-- byte k of the low bytes is byte k of the number
pub get_or-low_bytes : (n v k : ℕ) → k < n → get_or (low_bytes n v) k 0 ≡ byte_at k v
unfolding low_bytes
get_or-low_bytes zero v k lt = absurd (omega arith)
get_or-low_bytes (suc n) v zero lt = refl
get_or-low_bytes (suc n) v (suc k) lt = get_or-low_bytes n (v / 256) k (omega arith) ∙ sym (byte_at-next k v)

-- and each is a byte
pub low_bytes-below : (n v k : ℕ) → get_or (low_bytes n v) k 0 < 256
unfolding low_bytes
low_bytes-below zero v k = omega arith
low_bytes-below (suc n) v zero = omega arith
low_bytes-below (suc n) v (suc k) = low_bytes-below n (v / 256) k

-- the number of the n low bytes is what is left of a number by 2 ^ (8 * n)
pub number_of-low_bytes : (n v : ℕ) → number_of (low_bytes n v) ≡ v % 2 ^ (8 * n)
unfolding low_bytes
number_of-low_bytes zero v = omega arith
number_of-low_bytes (suc n) v =
    let longer : 8 * n + 8 ≡ 8 * suc n = omega arith in
    let digits : v % 256 + 256 * number_of (low_bytes n (v / 256)) ≡ v % 2 ^ (8 * n + 8) = omega (arith, mod-pow-add v (8 * n) 8, number_of-low_bytes n (v / 256)) in
    digits ∙ ap (λ k. v % 2 ^ k) longer

-- bytes are the low bytes of the number that they stand for
pub low_bytes-number_of : (bytes : List ℕ) → ((k : ℕ) → get_or bytes k 0 < 256) → low_bytes (length bytes) (number_of bytes) ≡ bytes
unfolding low_bytes
low_bytes-number_of [] below = refl
low_bytes-number_of (b ∷ bytes) below =
    let small : b < 256 = below 0 in
    let first : (b + 256 * number_of bytes) % 256 ≡ b = omega arith in
    let rest : (b + 256 * number_of bytes) / 256 ≡ number_of bytes = omega arith in
    rw (first, rest) (ap (λ l. b ∷ l) (low_bytes-number_of bytes (λ k. below (suc k))))

-- a byte has 8 bits
pub power-bits : (n : ℕ) → 256 ^ n ≡ 2 ^ (8 * n)
power-bits zero = refl
power-bits (suc n) =
    let longer : 8 + 8 * n ≡ 8 * suc n = omega arith in
    pow-succ' 256 n ∙ ap (λ k. 256 * k) (power-bits n) ∙ sym (pow-add 2 8 (8 * n)) ∙ ap (λ k. 2 ^ k) longer

-- the number of n bytes is below 256 ^ n
pub number_of-below : (bytes : List ℕ) → ((k : ℕ) → get_or bytes k 0 < 256) → number_of bytes < 256 ^ length bytes
number_of-below [] below = omega arith
number_of-below (b ∷ bytes) below =
    let small : b < 256 = below 0 in
    omega (arith, number_of-below bytes (λ k. below (suc k)), pow-succ' 256 (length bytes))

-- no higher byte counts among the low ones
pub low_bytes-mod : (n v : ℕ) → low_bytes n (v % 2 ^ (8 * n)) ≡ low_bytes n v
low_bytes-mod n v =
    ap (λ k. low_bytes n k) (sym (number_of-low_bytes n v))
    ∙ ap (λ k. low_bytes k (number_of (low_bytes n v))) (sym (length-low_bytes n v))
    ∙ low_bytes-number_of (low_bytes n v) (low_bytes-below n v)

-- the bytes of zero
pub low_bytes-zero : (n : ℕ) → low_bytes n 0 ≡ replicate n 0
unfolding low_bytes
low_bytes-zero zero = refl
low_bytes-zero (suc n) = ap (λ l. 0 ∷ l) (low_bytes-zero n)

-- the low bytes, and then those above them
pub low_bytes-add : (m n v : ℕ) → low_bytes (m + n) v ≡ low_bytes m v ++ low_bytes n (v / 256 ^ m)
unfolding low_bytes
low_bytes-add zero n v =
    let none : 0 + n ≡ n = omega arith in
    let whole : v / 1 ≡ v = omega arith in
    rw (none, whole) refl
low_bytes-add (suc m) n v =
    let next : suc m + n ≡ suc (m + n) = omega arith in
    let high : v / 256 ^ suc m ≡ v / 256 / 256 ^ m = ap (λ k. v / k) (pow-succ' 256 m) ∙ sym (div-div-eq-div-mul v 256 (256 ^ m)) in
    rw (next, high) (ap (λ l. v % 256 ∷ l) (low_bytes-add m n (v / 256)))

-- the first of the low bytes
pub take-low_bytes : (n m v : ℕ) → n ≤ m → take n (low_bytes m v) ≡ low_bytes n v
unfolding low_bytes
take-low_bytes zero m v le = refl
take-low_bytes (suc n) zero v le = absurd (omega arith)
take-low_bytes (suc n) (suc m) v le = ap (λ l. v % 256 ∷ l) (take-low_bytes n m (v / 256) (omega arith))

-- the number of one text of bytes and then another
pub number_of-append : (one other : List ℕ) → number_of (one ++ other) ≡ number_of one + 256 ^ length one * number_of other
number_of-append [] other = omega arith
number_of-append (b ∷ one) other =
    let high : 256 ^ suc (length one) * number_of other ≡ 256 * (256 ^ length one * number_of other) =
    ap (λ k. k * number_of other) (pow-succ' 256 (length one)) ∙ mul_assoc 256 (256 ^ length one) (number_of other) in
    omega (arith, high, number_of-append one other)

-- std's bytes of a number, from byte i + 1 upward
bytes_low_first-next : (i k v : ℕ) → bytes_low_first (suc i) k v ≡ bytes_low_first i k (v / 256)
bytes_low_first-next i zero v = refl
bytes_low_first-next i (suc k) v = λ j. byte_at-next i v j ∷ bytes_low_first-next (suc i) k v j

-- std's bytes of a number, of any count
pub bytes_low_first-low_bytes : (n v : ℕ) → bytes_low_first 0 n v ≡ low_bytes n v
unfolding low_bytes
bytes_low_first-low_bytes zero v = refl
bytes_low_first-low_bytes (suc n) v = ap (λ l. v % 256 ∷ l) (bytes_low_first-next 0 n v ∙ bytes_low_first-low_bytes n (v / 256))

-- `to_le_bytes` gives the low bytes, as many as the type has
pub to_le_bytes-low_bytes : (w : Width) (v : ℕ) → to_le_bytes w v ≡ low_bytes (byte_len w) v
to_le_bytes-low_bytes w v = bytes_low_first-low_bytes (byte_len w) v

-- the first bytes of those that `to_le_bytes` gives are the low bytes
pub take-to_le_bytes : (w : Width) (n v : ℕ) → n ≤ byte_len w → take n (to_le_bytes w v) ≡ low_bytes n v
take-to_le_bytes w n v le = ap (take n) (to_le_bytes-low_bytes w v) ∙ take-low_bytes n (byte_len w) v le

-- what a byte is worth, as one product
byte_worth-power : (k b : ℕ) → byte_worth k b ≡ 256 ^ k * b
byte_worth-power zero b = omega arith
byte_worth-power (suc k) b = mul_comm b (256 ^ suc k)

-- one byte more
number_of-more : (k : ℕ) (bytes : List ℕ) → k < length bytes → number_of (take (suc k) bytes) ≡ number_of (take k bytes) + byte_worth k (get_or bytes k 0)
number_of-more k bytes inside =
    let b = get_or bytes k 0 in
    let count : length (take k bytes) ≡ k = omega (arith, length-take k bytes) in
    let alone : b + 256 * 0 ≡ b = omega arith in
    rw (take-suc bytes k 0 inside, number_of-append (take k bytes) (b ∷ []), count, alone, ← byte_worth-power k b) refl

-- what the bytes up to byte k are worth
sum_through-number_of : (k : ℕ) (bytes : List ℕ) → k < length bytes → sum_through (λ i. byte_worth i (slice_index bytes i)) k ≡ number_of (take (suc k) bytes)
sum_through-number_of zero bytes inside = omega (arith, number_of-more zero bytes inside)
sum_through-number_of (suc k) bytes inside =
    omega (arith, sum_through-number_of k bytes (omega arith), number_of-more (suc k) bytes inside)

-- `from_le_bytes` of as many bytes as the type has gives their number
pub from_le_bytes-number_of : (w : Width) (bytes : List ℕ) → 1 ≤ byte_len w → length bytes ≡ byte_len w → from_le_bytes w bytes ≡ number_of bytes
from_le_bytes-number_of w bytes some all =
    let inside : byte_len w - 1 < length bytes = omega arith in
    sum_through-number_of (byte_len w - 1) bytes inside ∙ ap number_of (take_all (suc (byte_len w - 1)) bytes (omega arith))
