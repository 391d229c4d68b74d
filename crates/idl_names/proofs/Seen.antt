-- The constants that are seen in a definition: one step up, and one definition more.
use Rattle.std.proofs.Common.{◌≡◌, ℕ, zero, suc, ◌<◌, ◌≤◌, Bool, true, false, List, [], ◌∷◌, ◌++◌, length, reverse, Option, Some, None, refl, sym, ap, ◌∙◌, arith, ◌==◌, nat_lt, if◌then◌else◌}
use Rattle.std.proofs.lemmas.Bool.Decides.{nat_tests}
use Rattle.std.specs.Prelude.{slice_get}
use Rattle.std.specs.Option.{option_or, option_flatten}
use Rattle.std.proofs.Common.{length-append}
use Rattle.std.proofs.lemmas.List.{reverse-append, length-reverse}
use Rattle.idl_meaning.specs.Scopes.{either, constants_at, with_definition}
use Rattle.idl_names.specs.declared.constants.Definition.{Definition}
use Rattle.idl_names.specs.Tables.{known}
use Rattle.idl_names.specs.Views.{below, seen, seen_latest}

-- the measure of a walk from child to parent
abbrev pub above : Option ℕ → ℕ
above None = 0
above (Some rank) = suc rank

-- the definition of a rank, where the latest stands first
abbrev pub at_rank : List Definition → ℕ → Option Definition
at_rank [] rank = None
at_rank (d ∷ before) rank = if rank == length before then Some d else at_rank before rank

cond_true : {A : Type 0} (b : Bool) (x y : A) → b ≡ true → (if b then x else y) ≡ x
cond_true b x y e = ap (λ v. if v then x else y) e

cond_false : {A : Type 0} (b : Bool) (x y : A) → b ≡ false → (if b then x else y) ≡ y
cond_false b x y e = ap (λ v. if v then x else y) e

differs : (m n : ℕ) → m < n → (m == n) ≡ false
differs m n h = grind (arith, nat_tests)

differs_above : (m n : ℕ) → n < m → (m == n) ≡ false
differs_above m n h = grind (arith, nat_tests)

-- nothing is seen at a rank that no definition has
pub seen-past : (ds : List Definition) (rank : ℕ) (name : List ℕ) → length ds ≤ rank → seen_latest ds rank name ≡ None
seen-past [] rank name past = refl
seen-past (d ∷ ds) rank name past =
    cond_false (rank == length ds) _ _ (differs_above rank (length ds) (omega arith)) ∙ seen-past ds rank name (omega arith)

-- what is seen at a lower rank is seen without the latest definition
lower : (d : Definition) (ds : List Definition) (rank : ℕ) (name : List ℕ) → rank < length ds → seen_latest (d ∷ ds) rank name ≡ seen_latest ds rank name
lower d ds rank name h = cond_false (rank == length ds) _ _ (differs rank (length ds) h)

-- a parent that is not below is none
parent-below : (d : Definition) (ds : List Definition) (p : Option ℕ) (name : List ℕ)
    → constants_at (seen_latest ds) p name ≡ constants_at (seen_latest (d ∷ ds)) (below (length ds) p) name
parent-below d ds None name = refl
parent-below d ds (Some p) name = go (nat_lt p (length ds)) refl where
  go : (b : Bool) → nat_lt p (length ds) ≡ b
      → seen_latest ds p name ≡ constants_at (seen_latest (d ∷ ds)) (if b then Some p else None) name
  go true e = sym (lower d ds p name (grind (arith, nat_tests, e)))
  go false e = seen-past ds p name (grind (arith, nat_tests, e))

-- the same, where the definition is an earlier one
parent-lower : (d : Definition) (ds : List Definition) (rank : ℕ) (p : Option ℕ) (name : List ℕ) → rank < length ds
    → constants_at (seen_latest ds) (below rank p) name ≡ constants_at (seen_latest (d ∷ ds)) (below rank p) name
parent-lower d ds rank None name h = refl
parent-lower d ds rank (Some p) name h = go (nat_lt p rank) refl where
  go : (b : Bool) → nat_lt p rank ≡ b
      → constants_at (seen_latest ds) (if b then Some p else None) name ≡ constants_at (seen_latest (d ∷ ds)) (if b then Some p else None) name
  go true e = let low : p < rank = grind (arith, nat_tests, e) in sym (lower d ds p name (omega arith))
  go false e = refl

at_rank-within : (ds : List Definition) (rank : ℕ) (d : Definition) → at_rank ds rank ≡ Some d → rank < length ds
at_rank-within [] rank d e = absurd cc
at_rank-within (x ∷ ds) rank d e = go (at_rank-within ds rank d) (rank == length ds) refl where
  go : (at_rank ds rank ≡ Some d → rank < length ds) → (b : Bool) → (rank == length ds) ≡ b → rank < suc (length ds)
  go up true same = grind (arith, nat_tests, same)
  go up false other = let h = up (sym (cond_false (rank == length ds) (Some x) (at_rank ds rank) other) ∙ e) in omega arith

-- one step up
step_up : (ds : List Definition) (rank : ℕ) (d : Definition) (name : List ℕ) → at_rank ds rank ≡ Some d
    → seen_latest ds rank name ≡ either (known d.own) (constants_at (seen_latest ds) (below rank d.parent)) name
step_up [] rank d name e = absurd cc
step_up (x ∷ ds) rank d name e = go (step_up ds rank d name) (rank == length ds) refl where
  go : (at_rank ds rank ≡ Some d → seen_latest ds rank name ≡ either (known d.own) (constants_at (seen_latest ds) (below rank d.parent)) name)
      → (b : Bool) → (rank == length ds) ≡ b
      → seen_latest (x ∷ ds) rank name ≡ either (known d.own) (constants_at (seen_latest (x ∷ ds)) (below rank d.parent)) name
  go up true same =
      let here : rank ≡ length ds = grind (arith, nat_tests, same) in
      let is : x ≡ d = let h = sym (cond_true (rank == length ds) (Some x) (at_rank ds rank) same) ∙ e in cc in
      cond_true (rank == length ds) _ _ same
      ∙ (λ j. either (known (is j).own) (constants_at (seen_latest ds) (is j).parent) name)
      ∙ (λ j. option_or (option_flatten (known d.own name)) (parent-below x ds d.parent name j))
      ∙ (λ j. either (known d.own) (constants_at (seen_latest (x ∷ ds)) (below (sym here j) d.parent)) name)
  go up false other =
      let there : at_rank ds rank ≡ Some d = sym (cond_false (rank == length ds) (Some x) (at_rank ds rank) other) ∙ e in
      cond_false (rank == length ds) _ _ other ∙ up there
      ∙ (λ j. option_or (option_flatten (known d.own name)) (parent-lower x ds rank d.parent name (at_rank-within ds rank d there) j))

-- ---- the latest first, or last

at_rank-last : (ds : List Definition) (d : Definition) → at_rank (ds ++ d ∷ []) 0 ≡ Some d
at_rank-last [] d = refl
at_rank-last (x ∷ ds) d =
    cond_false (0 == length (ds ++ d ∷ [])) _ _ (differs 0 (length (ds ++ d ∷ [])) (simp length-append (omega arith))) ∙ at_rank-last ds d

at_rank-before : (ds : List Definition) (d : Definition) (rank : ℕ) → at_rank (ds ++ d ∷ []) (suc rank) ≡ at_rank ds rank
at_rank-before [] d rank = cond_false (suc rank == 0) (Some d) None (differs_above (suc rank) 0 (omega arith))
at_rank-before (x ∷ ds) d rank = go (at_rank-before ds d rank) (rank == length ds) refl where
  go : at_rank (ds ++ d ∷ []) (suc rank) ≡ at_rank ds rank → (b : Bool) → (rank == length ds) ≡ b
      → at_rank (x ∷ ds ++ d ∷ []) (suc rank) ≡ (if b then Some x else at_rank ds rank)
  go up true same =
      let here : rank ≡ length ds = grind (arith, nat_tests, same) in
      cond_true (suc rank == length (ds ++ d ∷ [])) _ _ (simp length-append (rw here (grind (arith, nat_tests))))
  go up false other =
      cond_false (suc rank == length (ds ++ d ∷ [])) _ _ (simp length-append (grind (arith, nat_tests, other))) ∙ up

-- the definition of a rank is the one at that place
at_rank-is : (xs : List Definition) (rank : ℕ) → slice_get xs rank ≡ at_rank (reverse xs) rank
at_rank-is [] rank = refl
at_rank-is (x ∷ xs) zero = sym (ap (λ ds. at_rank ds 0) (reverse-append (x ∷ []) xs) ∙ at_rank-last (reverse xs) x)
at_rank-is (x ∷ xs) (suc rank) =
    at_rank-is xs rank ∙ sym (ap (λ ds. at_rank ds (suc rank)) (reverse-append (x ∷ []) xs) ∙ at_rank-before (reverse xs) x rank)

-- one step up, from the definition at a place
pub seen-step : (xs : List Definition) (rank : ℕ) (d : Definition) (name : List ℕ) → slice_get xs rank ≡ Some d
    → seen xs rank name ≡ either (known d.own) (constants_at (seen xs) (below rank d.parent)) name
seen-step xs rank d name e = step_up (reverse xs) rank d name (sym (at_rank-is xs rank) ∙ e)

at_rank-none : (ds : List Definition) (rank : ℕ) (name : List ℕ) → at_rank ds rank ≡ None → seen_latest ds rank name ≡ None
at_rank-none [] rank name e = refl
at_rank-none (x ∷ ds) rank name e = go (at_rank-none ds rank name) (rank == length ds) refl where
  go : (at_rank ds rank ≡ None → seen_latest ds rank name ≡ None) → (b : Bool) → (rank == length ds) ≡ b → seen_latest (x ∷ ds) rank name ≡ None
  go up true same = absurd (let h = sym (cond_true (rank == length ds) (Some x) (at_rank ds rank) same) ∙ e in cc)
  go up false other =
      cond_false (rank == length ds) _ _ other ∙ up (sym (cond_false (rank == length ds) (Some x) (at_rank ds rank) other) ∙ e)

-- nothing is seen where no definition is
pub seen-none : (xs : List Definition) (rank : ℕ) (name : List ℕ) → slice_get xs rank ≡ None → seen xs rank name ≡ None
seen-none xs rank name e = at_rank-none (reverse xs) rank name (sym (at_rank-is xs rank) ∙ e)

-- one definition more
pub seen-push : (xs : List Definition) (d : Definition)
    → seen (xs ++ d ∷ []) ≡ with_definition (seen xs) (length xs) (either (known d.own) (constants_at (seen xs) d.parent))
seen-push xs d =
    ap seen_latest (reverse-append xs (d ∷ []))
    ∙ (λ j rank name. if rank == length-reverse xs j then either (known d.own) (constants_at (seen xs) d.parent) name else seen xs rank name)

-- what the nearest has, else what the others have
pub own_first : {A : Type 0} (mine others : Option A) (v : A) → mine ≡ Some v → option_or mine others ≡ Some v
own_first mine others v e = ap (λ m. option_or m others) e

pub own_none : {A : Type 0} (mine others : Option A) → mine ≡ None → option_or mine others ≡ others
own_none mine others e = ap (λ m. option_or m others) e
