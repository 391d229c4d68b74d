-- The laws of the places of arguments, each for all five conventions.
use Rattle.std.proofs.Common.{◌≡◌, ℕ, ◌+◌, ◌*◌, ◌-◌, ◌/◌, ◌%◌, ◌<◌, ◌≤◌, Bool, true, false, not, cond, ◌&&◌, nat_eq, List, [], ◌∷◌, ◌++◌, length, length-append, ap, ◌∙◌, refl, add-one, arith}
use Rattle.std.specs.List.{sum_by, fold}
use Rattle.std.proofs.lemmas.List.Sums.{sum_by-append, sum_by-cons, fold-append}
use Rattle.std.proofs.lemmas.Grind.{common_steps}
use Rattle.call_model.specs.declared.ctypes.CType.{CType}
use Rattle.call_model.specs.declared.places.Conv.{Conv}
use Rattle.call_model.specs.declared.places.Conv.TheVariants.{SysV64, I386, Aapcs64, Ms64, Aapcs32}
use Rattle.call_model.specs.Types.{is_float, is_wide, integers, floats}
use Rattle.call_model.specs.Placement.{place_by_class, place_by_position, positions_end, class_place, class_stack, overflow_bytes, four_or_eight, rounded, rounded_end, area_end, StandsBefore, PlacesApart, IsWithin, PlacesWithin, gprs_of, fprs_of, Continues, FillsStack, StackGrows, StackIsBounded}

-- a sum over a list with an element in the middle
sum-middle : {X : Type 0} (f : X → ℕ) (xs : List X) (t : X) (ys : List X)
    → sum_by f (xs ++ t ∷ ys) ≡ sum_by f xs + (f t + sum_by f ys)
sum-middle f xs t ys = sum_by-append f xs (t ∷ ys) ∙ ap (λ n. sum_by f xs + n) (sum_by-cons f t ys)

-- the integers and the floats of a list with a type in the middle
integers-middle : (earlier : List CType) (t : CType) (later : List CType)
    → integers (earlier ++ t ∷ later) ≡ integers earlier +
    (cond (not (is_float t)) 1 0 + integers later)
integers-middle earlier t later = sum-middle (λ u. cond (not (is_float u)) 1 0) earlier t later

floats-middle : (earlier : List CType) (t : CType) (later : List CType)
    → floats (earlier ++ t ∷ later) ≡ floats earlier + (cond (is_float t) 1 0 + floats later)
floats-middle earlier t later = sum-middle (λ u. cond (is_float u) 1 0) earlier t later

-- a place by class stands before one with more of the own class before it, and no fewer of the
-- other
counted-apart : (gprs fprs i f j k : ℕ) (b c : Bool) → i + cond (not b) 1 0 ≤ j → f + cond b 1 0 ≤ k
    → StandsBefore (place_by_class gprs fprs i f b) 8 (place_by_class gprs fprs j k c)
counted-apart g h i f j k true true p q = grind (arith, common_steps)
counted-apart g h i f j k true false p q = grind (arith, common_steps)
counted-apart g h i f j k false true p q = grind (arith, common_steps)
counted-apart g h i f j k false false p q = grind (arith, common_steps)

classes-apart : (conv : Conv) (earlier : List CType) (t : CType) (between : List CType) (u : CType)
    → StandsBefore (class_place conv earlier t) 8 (class_place conv (earlier ++ t ∷ between) u)
classes-apart conv earlier t between u =
    counted-apart (gprs_of conv) (fprs_of conv) _ _ _ _ (is_float t) (is_float u)
    (omega (arith, integers-middle earlier t between))
    (omega (arith, floats-middle earlier t between))

positions-apart : (i j : ℕ) (b c : Bool) → i < j
    → StandsBefore (place_by_position i b) 8 (place_by_position j c)
positions-apart i j true true lt = grind (arith, common_steps)
positions-apart i j true false lt = grind (arith, common_steps)
positions-apart i j false true lt = grind (arith, common_steps)
positions-apart i j false false lt = grind (arith, common_steps)

length-middle : {X : Type 0} (xs : List X) (t : X) (ys : List X)
    → length (xs ++ t ∷ ys) ≡ length xs + (1 + length ys)
length-middle xs t ys = omega (arith, length-append xs (t ∷ ys))

-- the place of a type is no lower than the end of the earlier ones
pub rounded-ge : (at : ℕ) (t : CType) → at ≤ rounded at t
rounded-ge at t = grind (arith, common_steps)

-- going on from a place, the end only grows
area_from-grows : (at : ℕ) (types : List CType)
    → at ≤ fold (λ at t. rounded_end at t) at types
area_from-grows at [] = omega arith
area_from-grows at (t ∷ types) =
    omega (arith, rounded-ge at t, area_from-grows (rounded_end at t) types)

area_end-middle : (earlier : List CType) (t : CType) (later : List CType)
    → area_end (earlier ++ t ∷ later) ≡ fold (λ at t. rounded_end at t)
    (rounded_end (area_end earlier) t) later
area_end-middle earlier t later =
    fold-append (λ at t. rounded_end at t) 0 earlier (t ∷ later)

pub area-apart : (earlier : List CType) (t : CType) (between : List CType)
    → rounded_end (area_end earlier) t ≤ area_end (earlier ++ t ∷ between)
area-apart earlier t between =
    omega (
      arith,
      area_end-middle earlier t between,
      area_from-grows (rounded_end (area_end earlier) t) between,
    )

pub places-apart : (conv : Conv) → PlacesApart conv
places-apart SysV64 earlier t between u = classes-apart SysV64 earlier t between u
places-apart I386 earlier t between u = omega (arith, sum-middle four_or_eight earlier t between)
places-apart Aapcs64 earlier t between u = classes-apart Aapcs64 earlier t between u
places-apart Ms64 earlier t between u =
    positions-apart _ _ (is_float t) (is_float u) (omega (arith, length-middle earlier t between))
places-apart Aapcs32 earlier t between u =
    omega (arith, area-apart earlier t between, rounded-ge (area_end (earlier ++ t ∷ between)) u)

-- a place by class is a register of the class, or within the bytes of a list that holds the type
-- too
class-within : (conv : Conv) (i f j k : ℕ) (b : Bool)
    → i + cond (not b) 1 0 ≤ j → f + cond b 1 0 ≤ k
    → IsWithin conv (overflow_bytes (gprs_of conv) (fprs_of conv) j k)
    (place_by_class (gprs_of conv) (fprs_of conv) i f b) 8
class-within conv i f j k true p q = grind (arith, common_steps)
class-within conv i f j k false p q = grind (arith, common_steps)

classes-within : (conv : Conv) (earlier : List CType) (t : CType) (later : List CType)
    → IsWithin conv (class_stack conv (earlier ++ t ∷ later)) (class_place conv earlier t) 8
classes-within conv earlier t later =
    class-within conv _ _ _ _ (is_float t)
    (omega (arith, integers-middle earlier t later)) (omega (arith, floats-middle earlier t later))

position-within : (i n : ℕ) (b : Bool) → i < n
    → IsWithin Ms64 (positions_end n) (place_by_position i b) 8
position-within i n true lt = grind (arith, common_steps)
position-within i n false lt = grind (arith, common_steps)

pub places-within : (conv : Conv) → PlacesWithin conv
places-within SysV64 earlier t later = classes-within SysV64 earlier t later
places-within I386 earlier t later = omega (arith, sum-middle four_or_eight earlier t later)
places-within Aapcs64 earlier t later = classes-within Aapcs64 earlier t later
places-within Ms64 earlier t later =
    position-within _ _ (is_float t) (omega (arith, length-middle earlier t later))
places-within Aapcs32 earlier t later = omega (arith, area-apart earlier t later)

-- one more argument by class goes on where the others end
class-continues : (gprs fprs i f : ℕ) (b : Bool)
    → Continues (overflow_bytes gprs fprs i f + 0)
    (overflow_bytes gprs fprs (i + (cond (not b) 1 0 + 0)) (f + (cond b 1 0 + 0)))
    (place_by_class gprs fprs i f b) 8
class-continues g h i f true = grind (arith, common_steps)
class-continues g h i f false = grind (arith, common_steps)

classes-continue : (conv : Conv) (earlier : List CType) (t : CType)
    → Continues (class_stack conv earlier + 0) (class_stack conv (earlier ++ t ∷ []))
    (class_place conv earlier t) 8
classes-continue conv earlier t =
    rw (integers-middle earlier t [], floats-middle earlier t [])
    (class-continues (gprs_of conv) (fprs_of conv) (integers earlier) (floats earlier) (is_float t))

position-continues : (i : ℕ) (b : Bool) →
    Continues (positions_end i + 0) (positions_end (i + 1)) (place_by_position i b) 8
position-continues i true = grind (arith, common_steps)
position-continues i false = grind (arith, common_steps)

-- after a place at a whole word the next end is at a whole word
end-words : (at : ℕ) (b : Bool) → at % 4 ≡ 0 → (cond b ((at + 7) / 8 * 8) at + cond b 8 4) % 4 ≡ 0
end-words at true words = omega arith
end-words at false words = omega arith

-- the area ends at a whole word
area_from-words : (at : ℕ) (types : List CType) → at % 4 ≡ 0
    → fold (λ at t. rounded_end at t) at types % 4 ≡ 0
area_from-words at [] words = words
area_from-words at (t ∷ types) words =
    area_from-words (rounded_end at t) types (end-words at (is_wide t) words)

pub area-words : (types : List CType) → area_end types % 4 ≡ 0
area-words types = area_from-words 0 types refl

-- a place that is a whole word is rounded by 4 bytes or by none
rounded-padding : (at : ℕ) (b : Bool) → at % 4 ≡ 0
    → cond b ((at + 7) / 8 * 8) at ≡ at + cond (b && nat_eq (at % 8) 4) 4 0
rounded-padding at true words = grind (arith, common_steps)
rounded-padding at false words = grind (arith, common_steps)

pub fills-stack : (conv : Conv) → FillsStack conv
fills-stack SysV64 = record {
  starts = refl;
  continues = λ earlier t. classes-continue SysV64 earlier t;
  whole = λ types. omega arith;
}
fills-stack I386 = record {
  starts = refl;
  continues = λ earlier t. (omega arith, omega (arith, sum-middle four_or_eight earlier t []));
  whole = λ types. omega arith;
}
fills-stack Aapcs64 = record {
  starts = refl;
  continues = λ earlier t. classes-continue Aapcs64 earlier t;
  whole = λ types. omega arith;
}
fills-stack Ms64 = record {
  starts = refl;
  continues = λ earlier t.
      rw (length-append {A = CType}) (position-continues (length earlier) (is_float t));
  whole = λ types. omega arith;
}
fills-stack Aapcs32 = record {
  starts = refl;
  continues = λ earlier t.
      let begins = rounded-padding (area_end earlier) (is_wide t) (area-words earlier) in
      (begins, area_end-middle earlier t [] ∙ ap (λ n. n + four_or_eight t) begins);
  whole = λ types. refl;
}

pub stack-grows : (conv : Conv) → StackGrows conv
stack-grows SysV64 types more =
    omega (
      arith,
      sum_by-append (λ u. cond (not (is_float u)) 1 0) types more,
      sum_by-append (λ u. cond (is_float u) 1 0) types more,
    )
stack-grows I386 types more = omega (arith, sum_by-append four_or_eight types more)
stack-grows Aapcs64 types more =
    omega (
      arith,
      sum_by-append (λ u. cond (not (is_float u)) 1 0) types more,
      sum_by-append (λ u. cond (is_float u) 1 0) types more,
    )
stack-grows Ms64 types more = omega (arith, length-append types more)
stack-grows Aapcs32 types more =
    omega (
      arith,
      fold-append (λ at t. rounded_end at t) 0 types more,
      area_from-grows (area_end types) more,
    )

-- a type is of one class
one-class : (b : Bool) (i f n : ℕ) → i + f ≡ n → cond (not b) 1 0 + i + (cond b 1 0 + f) ≡ n + 1
one-class true i f n e = omega arith
one-class false i f n e = omega arith

pub integers-and-floats : (types : List CType) → integers types + floats types ≡ length types
integers-and-floats [] = refl
integers-and-floats (t ∷ types) =
    rw (
      sum_by-cons (λ u. cond (not (is_float u)) 1 0) t types,
      sum_by-cons (λ u. cond (is_float u) 1 0) t types,
    )
    (one-class (is_float t) _ _ _ (integers-and-floats types) ∙ add-one (length types))

-- 4 or 8 bytes are at most 8
narrow-or-wide : (b : Bool) → cond b 8 4 ≤ 8
narrow-or-wide true = omega arith
narrow-or-wide false = omega arith

pub words-bounded : (types : List CType) → sum_by four_or_eight types ≤ 8 * length types
words-bounded [] = omega arith
words-bounded (t ∷ types) =
    omega (
      arith,
      sum_by-cons four_or_eight t types,
      narrow-or-wide (is_wide t),
      words-bounded types,
    )

-- one more argument takes at most 8 bytes of the area above a multiple of 8
end-bounded : (at n : ℕ) (b : Bool) → at ≤ 8 * n
    → cond b ((at + 7) / 8 * 8) at + cond b 8 4 ≤ 8 * (n + 1)
end-bounded at n true le = omega arith
end-bounded at n false le = omega arith

area_from-bounded : (at n : ℕ) (types : List CType) → at ≤ 8 * n
    → fold (λ at t. rounded_end at t) at types ≤ 8 * (n + length types)
area_from-bounded at n [] le = omega arith
area_from-bounded at n (t ∷ types) le =
    omega (
      arith,
      area_from-bounded (rounded_end at t) (n + 1) types (end-bounded at n (is_wide t) le),
    )

pub area-bounded : (types : List CType) → area_end types ≤ 8 * length types
area-bounded types = omega (arith, area_from-bounded 0 0 types (omega arith))

pub stack-is-bounded : (conv : Conv) → StackIsBounded conv
stack-is-bounded SysV64 types short = omega (arith, integers-and-floats types)
stack-is-bounded I386 types short = omega (arith, words-bounded types)
stack-is-bounded Aapcs64 types short = omega (arith, integers-and-floats types)
stack-is-bounded Ms64 types short = omega arith
stack-is-bounded Aapcs32 types short = omega (arith, area-bounded types)
