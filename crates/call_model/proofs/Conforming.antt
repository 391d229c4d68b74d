-- The frame of a call conforms to its values, and a conforming frame gives their canonical
-- patterns.
use Rattle.std.proofs.Common.{◌≡◌, ℕ, suc, zero, ◌+◌, ◌*◌, ◌%◌, ◌^◌, ◌<◌, List, [], ◌∷◌, length, take, ap, subst, sym, ◌∙◌, refl, arith}
use Rattle.std.specs.List.{slice_index}
use Rattle.std.proofs.lemmas.List.FromFn.{length-map-range_with_len}
use Rattle.call_model.specs.declared.ctypes.CType.{CType}
use Rattle.call_model.specs.declared.places.Conv.{Conv}
use Rattle.call_model.specs.declared.places.Loc.{Loc}
use Rattle.call_model.specs.declared.places.Loc.TheVariants.{Gpr, Fpr, Stack}
use Rattle.xp_base.specs.LittleEndian.{low_bytes, number_of}
use Rattle.xp_base.proofs.LittleEndian.{number_of-low_bytes, take-low_bytes}
use Rattle.call_model.specs.Placement.{place_at, type_at, space_at, space_of, stack_len_of}
use Rattle.call_model.specs.Values.{FrameView, arguments, byte_of, placed, canon, canon_all, own_len, own_len_at, own_bytes, extended, HoldsPattern, PlacedConforms, ReceivesCanonical}
use Rattle.call_model.proofs.Patterns.{canon-own, own-fits, same-low_bytes}
use Rattle.call_model.proofs.PlacedFrames.{holds-each, shorter-slice}

-- the canonical patterns, one for each value
pub length-canon_all : (conv : Conv) (types : List CType) (values : List ℕ)
    → length types ≡ length values → length (canon_all conv types values) ≡ length values
length-canon_all conv [] [] e = refl
length-canon_all conv [] (v ∷ values) e = absurd (omega (arith, e))
length-canon_all conv (t ∷ types) [] e = refl
length-canon_all conv (t ∷ types) (v ∷ values) e =
    omega (arith, length-canon_all conv types values (omega (arith, e)))

pub canon_all-at : (conv : Conv) (types : List CType) (values : List ℕ) (i : ℕ)
    → length types ≡ length values → i < length types
    → slice_index (canon_all conv types values) i ≡ canon conv (type_at types i)
    (slice_index values i)
canon_all-at conv [] values i e lt = absurd (omega (arith, lt))
canon_all-at conv (t ∷ types) [] i e lt = absurd (omega (arith, e))
canon_all-at conv (t ∷ types) (v ∷ values) zero e lt = refl
canon_all-at conv (t ∷ types) (v ∷ values) (suc i) e lt =
    canon_all-at conv types values i (omega (arith, e)) (omega (arith, lt))

-- values that are canonical are their own patterns
pub canon_all-canonical : (conv : Conv) (types : List CType) (values : List ℕ)
    → length types ≡ length values
    →
    ((i : ℕ) → i < length types → canon conv (type_at types i) (slice_index values i) ≡ slice_index values i)
    → canon_all conv types values ≡ values
canon_all-canonical conv [] [] e are = refl
canon_all-canonical conv [] (v ∷ values) e are = absurd (omega (arith, e))
canon_all-canonical conv (t ∷ types) [] e are = absurd (omega (arith, e))
canon_all-canonical conv (t ∷ types) (v ∷ values) e are =
    ap (λ w. w ∷ canon_all conv types values) (are 0 (omega arith))
    ∙ ap (λ ws. v ∷ ws) (canon_all-canonical conv types values (omega (arith, e)) (λ i lt. are (suc i) (omega (arith, lt))))

-- a canonical pattern that stands whole at a location has the value's own bytes there
own-of-pattern : (conv : Conv) (t : CType) (v : ℕ) (frame : FrameView) (loc : Loc)
    → HoldsPattern frame (space_of conv t) (canon conv t v) loc
    → own_bytes frame (own_len conv t) loc ≡ low_bytes (own_len conv t) v
own-of-pattern conv t v frame (Gpr r) holds =
    ap (low_bytes (own_len conv t)) holds ∙ same-low_bytes (own_len conv t) (canon conv t v) v (canon-own conv t v)
own-of-pattern conv t v frame (Fpr r) holds =
    ap (low_bytes (own_len conv t)) holds ∙ same-low_bytes (own_len conv t) (canon conv t v) v (canon-own conv t v)
own-of-pattern conv t v frame (Stack at) holds =
    shorter-slice frame.stack at (own_len conv t) (space_of conv t) (own-fits conv t)
    ∙ ap (take (own_len conv t)) holds
    ∙ take-low_bytes (own_len conv t) (space_of conv t) (canon conv t v) (own-fits conv t)
    ∙ same-low_bytes (own_len conv t) (canon conv t v) v (canon-own conv t v)

pub placed-conforms : (conv : Conv) → PlacedConforms conv
placed-conforms conv types values e =
    let patterns : List ℕ = canon_all conv types values in
    let paired : length types ≡ length patterns = e ∙ sym (length-canon_all conv types values e) in
    record {
      paired = e;
      enough = omega (arith, length-map-range_with_len (byte_of (arguments conv types patterns)) 0 (stack_len_of conv types));
      own = λ i lt.
          own-of-pattern conv (type_at types i) (slice_index values i) (placed conv types values) (place_at conv types i)
          (subst (λ p. HoldsPattern (placed conv types values) (space_at conv types i) p (place_at conv types i)) (canon_all-at conv types values i e lt)
          (holds-each conv types patterns paired i lt));
    }

pub receives-canonical : (conv : Conv) → ReceivesCanonical conv
receives-canonical conv types values frame conforms i lt =
    ap (extended conv (type_at types i))
    (ap number_of (conforms.own i lt) ∙ number_of-low_bytes (own_len_at conv types i) (slice_index values i))
