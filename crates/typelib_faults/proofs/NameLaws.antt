-- Numbers, flags and names: where there is no fault, what is read stands there; and what stands there is what is read.
use Rattle.std.proofs.Common.{◌≡◌, ◌≢◌, ℕ, ◌+◌, ◌<◌, ◌≤◌, List, length, get_or, take, drop, Option, Some, None, Bool, true, false, not, arith, refl, sym, ap, ◌∙◌, subst, eqb, ltb, ltb-true, lt-ltb, eqb-true, eq-eqb, ne_eqb, length-take, length-drop}
use Rattle.std.specs.Prelude.{IfSome, cond, is_some, unwrap_or, ◌&&◌, ◌||◌}
use Rattle.std.specs.Int.RustNames.{bit_and}
use Rattle.std.specs.List.{position_or_len}
use Rattle.std.specs.Int.Bits.{and_self}
use Rattle.std.proofs.lemmas.Bool.{eqb-false, not-false, not_from_true, or_from, or_parts}
use Rattle.std.proofs.lemmas.List.{get_or-drop, get_or-take}
use Rattle.std.proofs.lemmas.List.Quantifiers.{position-Some}
use Rattle.std.proofs.lemmas.List.Sums.{position_or_len_is}
use Rattle.std.proofs.lemmas.Nat.{and_assoc, and_le_r}
use Rattle.lib_model.specs.Denotes.{NameStands, NamespaceStands, TextStands, byte_at, half_at, place_of, word_at}
use Rattle.lib_model.specs.Valid.{AreKnownBits, HasNoZero, IsName, IsNamespace}
use Rattle.typelib_faults.specs.Bytes.{AreBytes}
use Rattle.typelib_faults.specs.Faults.{is_present, name_fault, namespace_fault}
use Rattle.typelib_faults.specs.Places.{name_at, namespace_at, text_at, text_len}
use Rattle.typelib_faults.specs.Walk.{faulty}
use Rattle.typelib_faults.proofs.WalkFacts.{faulty_none, fine_faulty}

-- ---- numbers and flags

pub half_small : (x : List ℕ) (p : ℕ) → AreBytes x → half_at x p < 65536
half_small x p bytes = omega (arith, bytes p, bytes (p + 1))

pub word_small : (x : List ℕ) (p : ℕ) → AreBytes x → word_at x p < 4294967296
word_small x p bytes = omega (arith, bytes p, bytes (p + 1), bytes (p + 2), bytes (p + 3))

pub flags_known : (known byte : ℕ) → known < 256 → AreKnownBits known (bit_and byte known)
flags_known known byte small = record {
  byte = omega (arith, and_le_r byte known);
  known_alone = and_assoc known byte known ∙ ap (bit_and byte) (and_self known);
}

-- ---- texts

pub text_sound : (x : List ℕ) (p n : ℕ) → text_len x p ≡ Some n → TextStands x p (take n (drop p x)) × ((length (take n (drop p x)) ≡ n) × ((n ≤ 255) × HasNoZero (take n (drop p x))))
text_sound x p n e =
    let first : (d : ℕ) → (n < length (take 256 (drop p x))) × (eqb (get_or (take 256 (drop p x)) n d) 0 ≡ true) × ((k : ℕ) → k < n → eqb (get_or (take 256 (drop p x)) k d) 0 ≡ false) = λ d. position-Some (λ (b : ℕ). eqb b 0) (take 256 (drop p x)) n d e
    in let within : n < length (take 256 (drop p x)) = (first 0).0
    in let short : n < 256 = omega (arith, within, length-take 256 (drop p x))
    in let inside : p + n + 1 ≤ length x = omega (arith, within, length-take 256 (drop p x), length-drop p x)
    in let long : length (take n (drop p x)) ≡ n = omega (arith, length-take n (drop p x), length-drop p x)
    in let zero_at : get_or (take 256 (drop p x)) n 0 ≡ 0 = eqb-true (get_or (take 256 (drop p x)) n 0) 0 (first 0).1
    in let ended : byte_at x (p + n) ≡ 0 = sym (get_or-drop p x n 0) ∙ (sym (get_or-take 256 (drop p x) n 0 short) ∙ zero_at)
    in (
      record {
        inside = omega (arith, inside, long);
        bytes = ap (λ (k : ℕ). take k (drop p x)) long;
        ended = ap (λ (k : ℕ). byte_at x (p + k)) long ∙ ended;
      },
      (
        long,
        (
          omega arith,
          λ k d h.
              let low : k < n = omega (arith, h, long)
              in let some : get_or (take 256 (drop p x)) k d ≢ 0 = eqb-false (get_or (take 256 (drop p x)) k d) 0 ((first d).2 k low)
              in omega (arith, some, get_or-take 256 (drop p x) k d (omega arith), get_or-take n (drop p x) k d low),
        ),
      ),
    )

at_text : (x : List ℕ) (p : ℕ) (text : List ℕ) (k : ℕ) → TextStands x p text → k < length text → get_or (drop p x) k 0 ≡ get_or text k 0
at_text x p text k stands low =
    sym (get_or-take (length text) (drop p x) k 0 low) ∙ ap (λ (t : List ℕ). get_or t k 0) stands.bytes

pub text_known : (x : List ℕ) (p : ℕ) (text : List ℕ) → TextStands x p text → length text ≤ 255 → HasNoZero text → text_len x p ≡ Some (length text)
text_known x p text stands short none =
    let within : length text < length (take 256 (drop p x)) = omega (arith, stands.inside, length-take 256 (drop p x), length-drop p x)
    in let ended : get_or (take 256 (drop p x)) (length text) 0 ≡ 0 = get_or-take 256 (drop p x) (length text) 0 (omega arith) ∙ (get_or-drop p x (length text) 0 ∙ stands.ended)
    in let is : position_or_len (λ (b : ℕ). eqb b 0) (take 256 (drop p x)) ≡ length text =
    position_or_len_is (λ (b : ℕ). eqb b 0) (take 256 (drop p x)) (length text) 0 (omega arith)
    (λ k low. ne_eqb (get_or (take 256 (drop p x)) k 0) 0 (omega (arith, none k 0 low, at_text x p text k stands low, get_or-take 256 (drop p x) k 0 (omega (arith, low, short)))))
    (λ _. eq-eqb (get_or (take 256 (drop p x)) (length text) 0) 0 ended)
    in let low : ltb (length text) (length (take 256 (drop p x))) ≡ true = lt-ltb (length text) (length (take 256 (drop p x))) within
    in rw (is, low) refl

pub text_reads : (x : List ℕ) (p : ℕ) (text : List ℕ) → TextStands x p text → length text ≤ 255 → HasNoZero text → text_at x p ≡ text
text_reads x p text stands short none =
    let known : text_len x p ≡ Some (length text) = text_known x p text stands short none
    in ap (λ (o : Option ℕ). take (unwrap_or o 0) (drop p x)) known ∙ stands.bytes

-- ---- names

present_some : (o : Option ℕ) → is_present o ≡ true → (n : ℕ) × ((o ≡ Some n) × (0 < n))
present_some None e = absurd (cc)
present_some (Some n) e = (n, (refl, ltb-true 0 n e))

some_is : (o : Option ℕ) → is_some o ≡ true → (n : ℕ) × (o ≡ Some n)
some_is None e = absurd (cc)
some_is (Some n) e = (n, refl)

name_stands : (x : List ℕ) (p n : ℕ) → p + 4 ≤ length x → word_at x p ≢ 0 → text_len x (place_of x (word_at x p)) ≡ Some n → NameStands x p (name_at x p) × ((length (name_at x p) ≡ n) × ((n ≤ 255) × HasNoZero (name_at x p)))
unfolding name_at
name_stands x p n inside some e =
    let place : ℕ = place_of x (word_at x p)
    in let is : text_at x place ≡ take n (drop place x) = ap (λ (o : Option ℕ). take (unwrap_or o 0) (drop place x)) e
    in let sound : TextStands x place (take n (drop place x)) × ((length (take n (drop place x)) ≡ n) × ((n ≤ 255) × HasNoZero (take n (drop place x)))) = text_sound x place n e
    in let Q : List ℕ → Type 0 = λ t. TextStands x place t × ((length t ≡ n) × ((n ≤ 255) × HasNoZero t))
    in let there : TextStands x place (text_at x place) × ((length (text_at x place) ≡ n) × ((n ≤ 255) × HasNoZero (text_at x place))) = subst Q (sym is) sound
    in (record { offset = word_at x p; stands = (inside, refl); present = omega arith; text = there.0 }, there.1)

pub name_sound : (x : List ℕ) (p : ℕ) → p + 4 ≤ length x → name_fault x p ≡ None → NameStands x p (name_at x p) × IsName (name_at x p)
unfolding name_fault
name_sound x p inside e =
    let parts : (eqb (word_at x p) 0 ≡ false) × (not (is_present (text_len x (place_of x (word_at x p)))) ≡ false) = or_parts (eqb (word_at x p) 0) (not (is_present (text_len x (place_of x (word_at x p))))) (faulty_none (eqb (word_at x p) 0 || not (is_present (text_len x (place_of x (word_at x p))))) 8 p e)
    in let found : (n : ℕ) × ((text_len x (place_of x (word_at x p)) ≡ Some n) × (0 < n)) = present_some (text_len x (place_of x (word_at x p))) (not-false (is_present (text_len x (place_of x (word_at x p)))) parts.1)
    in let all : NameStands x p (name_at x p) × ((length (name_at x p) ≡ found.0) × ((found.0 ≤ 255) × HasNoZero (name_at x p))) = name_stands x p found.0 inside (eqb-false (word_at x p) 0 parts.0) found.1.0
    in (all.0, record { present = omega (arith, all.1.0, found.1.1); short = omega (arith, all.1.0, all.1.1.0); no_zero = all.1.1.1 })

pub name_reads : (x : List ℕ) (p : ℕ) (name : List ℕ) → NameStands x p name → length name ≤ 255 → HasNoZero name → name_at x p ≡ name
unfolding name_at
name_reads x p name stands short none =
    ap (λ (k : ℕ). text_at x (place_of x k)) stands.stands.1 ∙ text_reads x (place_of x stands.offset) name stands.text short none

name_len : (x : List ℕ) (p : ℕ) (name : List ℕ) → NameStands x p name → length name ≤ 255 → HasNoZero name → text_len x (place_of x (word_at x p)) ≡ Some (length name)
name_len x p name stands short none =
    ap (λ (k : ℕ). text_len x (place_of x k)) stands.stands.1 ∙ text_known x (place_of x stands.offset) name stands.text short none

some_word : (x : List ℕ) (p : ℕ) (name : List ℕ) → NameStands x p name → eqb (word_at x p) 0 ≡ false
some_word x p name stands = ne_eqb (word_at x p) 0 (omega (arith, stands.stands.1, stands.present))

pub name_fine : (x : List ℕ) (p : ℕ) (name : List ℕ) → NameStands x p name → IsName name → name_fault x p ≡ None
unfolding name_fault
name_fine x p name stands is =
    fine_faulty (eqb (word_at x p) 0 || not (is_present (text_len x (place_of x (word_at x p))))) 8 p
    (or_from (eqb (word_at x p) 0) (not (is_present (text_len x (place_of x (word_at x p))))) (some_word x p name stands)
    (not_from_true (is_present (text_len x (place_of x (word_at x p)))) (ap is_present (name_len x p name stands is.short is.no_zero) ∙ lt-ltb 0 (length name) is.present)))

-- ---- namespaces

namespace_cases : (x : List ℕ) (p : ℕ) (b : Bool) → eqb (word_at x p) 0 ≡ b → p + 4 ≤ length x → faulty (not b && not (is_some (text_len x (place_of x (word_at x p))))) 8 p ≡ None → NamespaceStands x p (cond b None (Some (name_at x p))) × IfSome (cond b None (Some (name_at x p))) IsNamespace
namespace_cases x p true e inside fine = ((inside, eqb-true (word_at x p) 0 e), tt)
namespace_cases x p false e inside fine =
    let found : (n : ℕ) × (text_len x (place_of x (word_at x p)) ≡ Some n) = some_is (text_len x (place_of x (word_at x p))) (not-false (is_some (text_len x (place_of x (word_at x p)))) (faulty_none (not (is_some (text_len x (place_of x (word_at x p))))) 8 p fine))
    in let all : NameStands x p (name_at x p) × ((length (name_at x p) ≡ found.0) × ((found.0 ≤ 255) × HasNoZero (name_at x p))) = name_stands x p found.0 inside (eqb-false (word_at x p) 0 e) found.1
    in (all.0, record { short = omega (arith, all.1.0, all.1.1.0); no_zero = all.1.1.1 })

pub namespace_sound : (x : List ℕ) (p : ℕ) → p + 4 ≤ length x → namespace_fault x p ≡ None → NamespaceStands x p (namespace_at x p) × IfSome (namespace_at x p) IsNamespace
unfolding namespace_fault namespace_at
namespace_sound x p inside e = namespace_cases x p (eqb (word_at x p) 0) refl inside e

pub namespace_reads : (x : List ℕ) (p : ℕ) (o : Option (List ℕ)) → NamespaceStands x p o → IfSome o IsNamespace → (namespace_at x p ≡ o) × (namespace_fault x p ≡ None)
unfolding namespace_at namespace_fault
namespace_reads x p None stands is =
    let none : eqb (word_at x p) 0 ≡ true = eq-eqb (word_at x p) 0 stands.1
    in (rw none refl, rw none refl)
namespace_reads x p (Some name) stands is =
    let some : eqb (word_at x p) 0 ≡ false = some_word x p name stands
    in let read : name_at x p ≡ name = name_reads x p name stands is.short is.no_zero
    in let long : text_len x (place_of x (word_at x p)) ≡ Some (length name) = name_len x p name stands is.short is.no_zero
    in (rw (some, read) refl, fine_faulty (not (eqb (word_at x p) 0) && not (is_some (text_len x (place_of x (word_at x p))))) 8 p (rw (some, long) refl))
