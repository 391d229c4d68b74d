-- A header's first fault has its cause.
use Rattle.std.proofs.Common.{◌≡◌, ℕ, zero, suc, ◌+◌, ◌*◌, ◌<◌, ◌≤◌, List, length, take, true, false, not, cond, None, arith, refl, inl, inr, eqb, eqb-true, eq-eqb, leb-false, ltb-true}
use Rattle.std.specs.Prelude.{nat_le, nat_lt, ◌&&◌, ◌||◌}
use Rattle.std.specs.Str.{bytes_eq}
use Rattle.std.proofs.lemmas.Bool.{and_from, and_parts, eqb-false, not-false, not-true, or_cases}
use Rattle.std.proofs.lemmas.Slice.Eq.{bytes_eq-Decides}
use Rattle.lib_model.specs.Denotes.{byte_at, pool_of, word_at}
use Rattle.lib_model.specs.Emit.{magic}
use Rattle.typelib_faults.specs.Causes.{BeginsAfter, HasDirectory, IsFault}
use Rattle.typelib_faults.specs.Causes as kinds
use Rattle.typelib_faults.specs.Faults.{annotation_end, annotations_fault, header_fault, is_annotation, is_directory_past}
use Rattle.typelib_faults.specs.Places.{count_of, directory_of}
use Rattle.typelib_faults.specs.Walk.{faulty, ◌orelse◌}
use Rattle.typelib_faults.proofs.CauseFacts.{Blames, blames_both, blames_test, blames_then, blames_unless, fault_there}
use Rattle.typelib_faults.proofs.HeaderLaws.{annotation_fine, annotation_reads, annotation_sound}
use Rattle.typelib_faults.proofs.WalkFacts.{faulty_none}

-- ---- annotations

begins_far : (x : List ℕ) (k p : ℕ) → BeginsAfter x k p → 32 + k ≤ p
begins_far x zero p begins = omega (arith, begins)
begins_far x (suc k) p begins =
    omega (arith, begins_far x k begins.0 begins.1.0, (annotation_reads x begins.0 p begins.1.1.1).1.1)

annotations_blame : (x : List ℕ) (n p k : ℕ) → BeginsAfter x k p → k + n ≡ length x → Blames x (annotations_fault x n p)
unfolding annotations_fault
annotations_blame x zero p k begins all = record {
  kind = kinds.Annotation;
  code = refl;
  cause = record {
    before = k;
    begins = begins;
    lacks = λ q stands. omega (arith, stands.inside, (annotation_reads x p q stands).1.1, begins_far x k p begins, all);
  };
}
annotations_blame x (suc n) p k begins all =
    blames_then x (faulty (not (is_annotation x p)) 5 p) (cond (nat_le 128 (byte_at x p)) None (annotations_fault x n (annotation_end x p)))
    (blames_test x (not (is_annotation x p)) 5 p (λ e. record {
      kind = kinds.Annotation;
      code = refl;
      cause = record {
        before = k;
        begins = begins;
        lacks = λ q stands. fault_there (not (is_annotation x p)) 5 p e (annotation_fine x p q stands);
      };
    }))
    (λ fine. blames_unless x (nat_le 128 (byte_at x p)) (annotations_fault x n (annotation_end x p)) (λ more.
    annotations_blame x n (annotation_end x p) (suc k)
    (p, (begins, (leb-false 128 (byte_at x p) more, annotation_sound x p (not-false (is_annotation x p) (faulty_none (not (is_annotation x p)) 5 p fine)))))
    (omega (arith, all))))

-- ---- the header

has_magic : (x : List ℕ) → not (bytes_eq (take 16 x) magic) ≡ true → take 16 x ≡ magic → ⊥
has_magic x e is =
    let same : bytes_eq (take 16 x) magic ≡ true = (bytes_eq-Decides (take 16 x) magic).1 is
    in let other : bytes_eq (take 16 x) magic ≡ false = not-true (bytes_eq (take 16 x) magic) e
    in cc

has_version : (x : List ℕ) → not (eqb (byte_at x 16) 1 && eqb (byte_at x 17) 2) ≡ true → (byte_at x 16 ≡ 1) × (byte_at x 17 ≡ 2) → ⊥
has_version x e is =
    let same : (eqb (byte_at x 16) 1 && eqb (byte_at x 17) 2) ≡ true = and_from (eqb (byte_at x 16) 1) (eqb (byte_at x 17) 2) (eq-eqb (byte_at x 16) 1 is.0) (eq-eqb (byte_at x 17) 2 is.1)
    in let other : (eqb (byte_at x 16) 1 && eqb (byte_at x 17) 2) ≡ false = not-true (eqb (byte_at x 16) 1 && eqb (byte_at x 17) 2) e
    in cc

lacks_directory : (x : List ℕ) → is_directory_past x ≡ true → (0 < count_of x) × (HasDirectory x → ⊥)
lacks_directory x e =
    let parts : (not (eqb (count_of x) 0) ≡ true) × ((eqb (word_at x 24) 0 || nat_lt (length x) (directory_of x + 28 * count_of x)) ≡ true) = and_parts (not (eqb (count_of x) 0)) (eqb (word_at x 24) 0 || nat_lt (length x) (directory_of x + 28 * count_of x)) e
    in let some : count_of x ≡ 0 → ⊥ = eqb-false (count_of x) 0 (not-true (eqb (count_of x) 0) parts.0)
    in (
      omega (arith, some),
      λ has.
          elim (or_cases (eqb (word_at x 24) 0) (nat_lt (length x) (directory_of x + 28 * count_of x)) parts.1) as (λ _. ⊥) [
            | inl none ↦ omega (arith, has.0, eqb-true (word_at x 24) 0 none)
            | inr past ↦ omega (arith, has.1, ltb-true (length x) (directory_of x + 28 * count_of x) past)
          ],
    )

pub header_blames : (x : List ℕ) → Blames x (header_fault x)
unfolding header_fault
header_blames x =
    let front : Blames x (faulty (nat_lt (length x) 32) 1 (length x) orelse faulty (not (bytes_eq (take 16 x) magic)) 2 0 orelse faulty (not (eqb (byte_at x 16) 1 && eqb (byte_at x 17) 2)) 3 16 orelse faulty (not (eqb (word_at x 20) (length x))) 4 20) =
    blames_both x _ _ (blames_both x _ _ (blames_both x _ _
    (blames_test x (nat_lt (length x) 32) 1 (length x) (λ e. record { kind = kinds.Short; code = refl; cause = (refl, ltb-true (length x) 32 e) }))
    (blames_test x (not (bytes_eq (take 16 x) magic)) 2 0 (λ e. record { kind = kinds.Magic; code = refl; cause = (refl, has_magic x e) })))
    (blames_test x (not (eqb (byte_at x 16) 1 && eqb (byte_at x 17) 2)) 3 16 (λ e. record { kind = kinds.Version; code = refl; cause = (refl, has_version x e) })))
    (blames_test x (not (eqb (word_at x 20) (length x))) 4 20 (λ e. record { kind = kinds.Length; code = refl; cause = (refl, eqb-false (word_at x 20) (length x) (not-true (eqb (word_at x 20) (length x)) e)) }))
    in blames_both x _ _ (blames_both x _ _ (blames_both x _ _ front
    (annotations_blame x (length x) 32 0 refl (omega arith)))
    (blames_test x (is_directory_past x) 6 24 (λ e. record { kind = kinds.Directory; code = refl; cause = (refl, lacks_directory x e) })))
    (blames_test x (nat_lt (length x) (pool_of x)) 7 28 (λ e. record { kind = kinds.Pool; code = refl; cause = (refl, ltb-true (length x) (pool_of x) e) }))
