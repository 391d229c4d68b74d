-- What a fetch finds, held against the two limits.
use Rattle.std.proofs.Common.{◌≡◌, ◌≤◌, ◌<◌, ◌+◌, ◌⊎◌, inl, inr, ℕ, Bool, true, false, ◌&&◌, List, [], ◌∷◌, length, take, Option, Some, None, refl, sym, ◌∙◌, ap, subst, arith, length-take, take_all, leb-true, leb-false, le-leb}
use Rattle.std.specs.Prelude.{nat_le}
use Rattle.std.proofs.lemmas.Bool.Decides.{nat_tests}
use Rattle.std.proofs.lemmas.Grind.{common_steps}
use Rattle.xp_base.specs.Files.{fetched}
use Rattle.xp_base.specs.declared.limits.TheConstants.{MAX_TEXT}
use Rattle.xp_base.specs.declared.sources.Fetched.TheVariants.{Found, Missing}
use Rattle.include_closure.specs.Closure.{has_room}

found : (o : Option (List ℕ)) (limit : ℕ) (bytes : List ℕ) → Found bytes ≡ fetched o limit → (full : List ℕ) × (o ≡ Some full) × (bytes ≡ take (limit + 1) full)
found None limit bytes e = absurd cc
found (Some full) limit bytes e = (full, refl, cc)

pub found-missing : (o : Option (List ℕ)) (limit : ℕ) → Missing ≡ fetched o limit → o ≡ None
found-missing None limit e = refl
found-missing (Some full) limit e = absurd cc

-- a list that is cut behind one element more than a limit passes the limit where it did
cut-within : (limit : ℕ) (full : List ℕ) → length full ≤ limit → take (limit + 1) full ≡ full
cut-within limit full h = take_all (limit + 1) full (omega arith)

cut-passes : (limit : ℕ) (full : List ℕ) → limit < length full → limit < length (take (limit + 1) full)
cut-passes limit full h = omega (arith, length-take (limit + 1) full)

by-order : (P : Type 0) (m n : ℕ) → (m ≤ n → P) → (n < m → P) → P
by-order P m n f g = of_test (nat_le m n) refl where
  of_test : (b : Bool) → nat_le m n ≡ b → P
  of_test true e = f (leb-true m n e)
  of_test false e = g (leb-false m n e)

above : (m n : ℕ) → n < m → m ≤ n → ⊥
above m n h k = omega arith

uncut : (limit : ℕ) (full : List ℕ) → length (take (limit + 1) full) ≤ limit → take (limit + 1) full ≡ full
uncut limit full h =
    by-order (take (limit + 1) full ≡ full) (length full) limit (cut-within limit full)
    (λ long. absurd (above (length (take (limit + 1) full)) limit (cut-passes limit full long) h))

-- what is found within a limit is all of the file
found-whole : (limit : ℕ) (o : Option (List ℕ)) (bytes : List ℕ) → Found bytes ≡ fetched o limit → length bytes ≤ limit → o ≡ Some bytes
found-whole limit o bytes e h =
    let f = found o limit bytes e in
    let whole : bytes ≡ f.0 = f.2 ∙ uncut limit f.0 (subst (λ xs. length xs ≤ limit) f.2 h) in f.1 ∙ ap Some (sym whole)

-- what fails a test that no file beyond the limit passes is from a file that fails it
found-failing : (limit : ℕ) (test : List ℕ → Bool) → ((xs : List ℕ) → limit < length xs → test xs ≡ false) → (o : Option (List ℕ)) (bytes : List ℕ)
    → Found bytes ≡ fetched o limit → test bytes ≡ false → (full : List ℕ) × (o ≡ Some full) × (test full ≡ false)
found-failing limit test long o bytes e h =
    let f = found o limit bytes e in (
      f.0,
      f.1,
      by-order (test f.0 ≡ false) (length f.0) limit
          (λ within. subst (λ xs. test xs ≡ false) (f.2 ∙ cut-within limit f.0 within) h) (long f.0),
    )

-- ---- the two limits

first-true : (a b : Bool) → (a && b) ≡ true → a ≡ true
first-true true b h = refl
first-true false b h = h

pub room-short : (size : ℕ) (bytes : List ℕ) → has_room size bytes ≡ true → length bytes ≤ MAX_TEXT
room-short size bytes h = leb-true (length bytes) MAX_TEXT (first-true (nat_le (length bytes) MAX_TEXT) _ h)

no-room : (a b : Bool) → a ≡ false → (a && b) ≡ false
no-room true b h = absurd cc
no-room false b h = refl

over : (m n : ℕ) → n < m → nat_le m n ≡ false
over m n h = grind (arith, nat_tests)

long-no_room : (size : ℕ) (xs : List ℕ) → MAX_TEXT < length xs → has_room size xs ≡ false
long-no_room size xs h = no-room (nat_le (length xs) MAX_TEXT) _ (over (length xs) MAX_TEXT h)

-- bytes that have room were not cut
pub short-told : (o : Option (List ℕ)) (size : ℕ) (bytes : List ℕ) → Found bytes ≡ fetched o MAX_TEXT → has_room size bytes ≡ true → o ≡ Some bytes
short-told o size bytes e h = found-whole MAX_TEXT o bytes e (room-short size bytes h)

-- bytes that have none are from a file that has none
pub long-told : (o : Option (List ℕ)) (size : ℕ) (bytes : List ℕ) → Found bytes ≡ fetched o MAX_TEXT → has_room size bytes ≡ false
    → (full : List ℕ) × (o ≡ Some full) × (has_room size full ≡ false)
long-told o size bytes e h = found-failing MAX_TEXT (has_room size) (long-no_room size) o bytes e h
