-- At the position of a parameter stands its argument.
use Rattle.std.proofs.Common.{◌≡◌, ℕ, zero, suc, ◌+◌, ◌-◌, ◌<◌, ◌≤◌, Bool, true, false, List, [], ◌∷◌, ◌++◌, length, take, drop, arith, ap, sym, ◌∙◌, refl, zero-add, length-append, length-take-le, ltb-true, ltb-false}
use Rattle.std.specs.Prelude.{map, nat_lt, option_map, slice_get, if◌then◌else◌}
use Rattle.std.proofs.lemmas.List.{length-drop, length-map, take-append-drop}
use Rattle.std.proofs.lemmas.Option.{slice_get-map}
use Rattle.lib_model.specs.declared.contents.Method.{Method}
use Rattle.lib_model.specs.declared.param_types.Param.{Param}
use Rattle.lib_model.specs.Table.{HasPositions, arg_of, first_args, gives_value, middle_args, proto_of, written_count}

-- ---- an element of a list that is made of others

in_front : {A : Type 0} (xs ys : List A) (k : ℕ)
    → k < length xs → slice_get (xs ++ ys) k ≡ slice_get xs k
in_front [] ys k within = absurd (omega (arith, within))
in_front (x ∷ xs) ys zero within = refl
in_front (x ∷ xs) ys (suc k) within = in_front xs ys k (omega (arith, within))

behind : {A : Type 0} (xs ys : List A) (n k : ℕ)
    → n ≡ length xs + k → slice_get (xs ++ ys) n ≡ slice_get ys k
behind [] ys n k is = ap (slice_get ys) (is ∙ zero-add k)
behind (x ∷ xs) ys zero k is = absurd (omega (arith, is))
behind (x ∷ xs) ys (suc n) k is = behind xs ys n k (omega (arith, is))

in_two : {A : Type 0} (n : ℕ) (xs : List A) → xs ≡ take n xs ++ drop n xs
in_two n xs = sym (take-append-drop n xs)

-- ---- the parameters that are written

one_or_none : (b : Bool) → (if b then 0 else 1) ≤ 1
one_or_none true = omega arith
one_or_none false = omega arith

written_few : (ps : List Param) → written_count ps ≤ length ps
written_few [] = omega arith
written_few (p ∷ []) = one_or_none (gives_value p)
written_few (p ∷ q ∷ ps) = omega (arith, written_few (q ∷ ps))

written_behind : (ps : List Param) (p : Param)
    → written_count (ps ++ p ∷ []) ≡ length ps + (if gives_value p then 0 else 1)
written_behind [] p = sym (zero-add (if gives_value p then 0 else 1))
written_behind (q ∷ []) p = omega (arith, zero-add (if gives_value p then 0 else 1))
written_behind (q ∷ r ∷ ps) p = omega (arith, written_behind (r ∷ ps) p)

-- all but the last, where that gives the method's value, else all
pub written_last : (ps rest : List Param) (p : Param) → ps ≡ rest ++ p ∷ []
    → written_count ps ≡ length rest + (if gives_value p then 0 else 1)
written_last ps rest p whole = ap written_count whole ∙ written_behind rest p

-- ---- four lists in a row, the second and the last of which are a list in two parts

module _ {A B : Type 0} (f : A → B) (first middle : List B) (ps : List A) (w : ℕ)
    (few : w ≤ length ps) where
  whole : List B
  whole = first ++ (map f (take w ps) ++ (middle ++ map f (drop w ps)))

  place : Bool → ℕ → ℕ
  place early k = length first + k + (if early then 0 else length middle)

  front_len : length (map f (take w ps)) ≡ w
  front_len = length-map (take w ps) f ∙ length-take-le w ps few

  early_at : (k : ℕ) → k < w → slice_get whole (place true k) ≡ option_map f (slice_get ps k)
  unfolding whole place
  early_at k early =
      let rest : List B = middle ++ map f (drop w ps)
      in behind first (map f (take w ps) ++ rest) (length first + k + 0) k (omega arith)
      ∙ in_front (map f (take w ps)) rest k (omega (arith, early, front_len))
      ∙ slice_get-map f (take w ps) k
      ∙ ap (option_map f)
      (sym
      (ap (λ (xs : List A). slice_get xs k) (in_two w ps)
      ∙ in_front (take w ps) (drop w ps) k (omega (arith, early, length-take-le w ps few))))

  late_at : (k : ℕ) → w ≤ k → slice_get whole (place false k) ≡ option_map f (slice_get ps k)
  unfolding whole place
  late_at k late =
      let front : List B = map f (take w ps)
      in let back : List B = map f (drop w ps)
      in behind first (front ++ (middle ++ back)) (length first + k + length middle)
      (k + length middle) (omega arith)
      ∙ behind front (middle ++ back) (k + length middle) (k - w + length middle)
      (omega (arith, late, front_len))
      ∙ behind middle back (k - w + length middle) (k - w) (omega arith)
      ∙ slice_get-map f (drop w ps) (k - w)
      ∙ ap (option_map f)
      (sym
      (ap (λ (xs : List A). slice_get xs k) (in_two w ps)
      ∙ behind (take w ps) (drop w ps) k (k - w) (omega (arith, late, length-take-le w ps few))))

  at_place : (k : ℕ) (early : Bool) → nat_lt k w ≡ early
      → slice_get whole (place early k) ≡ option_map f (slice_get ps k)
  at_place k true is = early_at k (ltb-true k w is)
  at_place k false is = late_at k (ltb-false k w is)

  place_inside : (k : ℕ) (early : Bool) → k < length ps → nat_lt k w ≡ early
      → place early k < length whole
  unfolding whole place
  place_inside k true within is =
      omega (
        arith,
        within,
        few,
        front_len,
        length-append first (map f (take w ps) ++ (middle ++ map f (drop w ps))),
        length-append (map f (take w ps)) (middle ++ map f (drop w ps)),
        length-append middle (map f (drop w ps)),
        length-map (drop w ps) f,
        length-drop w ps,
      )
  place_inside k false within is =
      omega (
        arith,
        within,
        few,
        front_len,
        length-append first (map f (take w ps) ++ (middle ++ map f (drop w ps))),
        length-append (map f (take w ps)) (middle ++ map f (drop w ps)),
        length-append middle (map f (drop w ps)),
        length-map (drop w ps) f,
        length-drop w ps,
      )

pub has_positions : (m : Method) → HasPositions m
unfolding proto_of whole place
has_positions m =
    let w : ℕ = written_count m.params
    in record {
      argument = λ k.
          at_place (arg_of m) (first_args m) (middle_args m) m.params w (written_few m.params) k
          (nat_lt k w) refl;
      inside = λ k within.
          place_inside (arg_of m) (first_args m) (middle_args m) m.params w (written_few m.params) k
          (nat_lt k w) within refl;
    }
