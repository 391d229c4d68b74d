-- The header and its annotations: both laws.
use Rattle.std.proofs.Common.{◌≡◌, ◌≢◌, ℕ, zero, suc, ◌+◌, ◌-◌, ◌*◌, ◌%◌, ◌<◌, ◌≤◌, List, length, take, Option, Some, None, Bool, true, false, not, cond, arith, refl, sym, ap, ◌∙◌, subst, inl, inr, eqb, eqb-true, eq-eqb, ne_eqb, leb-true, leb-false, le-leb, ltb-true, ltb-false, lt-ltb, le-ltb}
use Rattle.std.specs.Prelude.{nat_le, nat_lt, ◌&&◌, ◌||◌}
use Rattle.std.specs.Str.{bytes_eq}
use Rattle.std.proofs.lemmas.Bool.{and_cases, and_from, and_left, and_parts, and_right, eqb-false, lt-leb, not-false, not_from_true, or_from, or_parts}
use Rattle.std.proofs.lemmas.Bool.Decides.{eqb_tells}
use Rattle.std.proofs.lemmas.Slice.Eq.{bytes_eq-Decides}
use Rattle.lib_model.specs.Denotes.{AnnotationStands, AnnotationsStand, byte_at, half_at, pool_of, word_at}
use Rattle.lib_model.specs.Emit.{magic}
use Rattle.typelib_faults.specs.declared.faults.BadTypelib.{BadTypelib}
use Rattle.typelib_faults.specs.Faults.{annotation_end, annotations_fault, header_fault, is_annotation, is_directory_past}
use Rattle.typelib_faults.specs.Places.{count_of, directory_of}
use Rattle.typelib_faults.specs.Walk.{faulty, ◌orelse◌}
use Rattle.typelib_faults.proofs.WalkFacts.{faulty_none, fine_faulty, none_orelse, orelse_fine, orelse_none, parts7}

-- ---- annotations, read

abbrev private_end : List ℕ → ℕ → ℕ
private_end x p = p + 5 + half_at x (p + 1) + half_at x (p + 3 + half_at x (p + 1))

annotation_cases : (x : List ℕ) (p : ℕ) (b : Bool) → eqb (byte_at x p % 128) 0 ≡ b → byte_at x p % 128 < 2 → cond b (p + 1) (private_end x p) ≤ length x → AnnotationStands x p (cond b (p + 1) (private_end x p))
annotation_cases x p true e low inside = record { form = inl (eqb-true (byte_at x p % 128) 0 e, refl); inside = inside }
annotation_cases x p false e low inside =
    let some : byte_at x p % 128 ≢ 0 = eqb-false (byte_at x p % 128) 0 e
    in record { form = inr (omega arith, refl); inside = inside }

pub annotation_sound : (x : List ℕ) (p : ℕ) → is_annotation x p ≡ true → AnnotationStands x p (annotation_end x p)
annotation_sound x p e =
    let parts : (nat_lt (byte_at x p % 128) 2 ≡ true) × (nat_le (annotation_end x p) (length x) ≡ true) = and_parts (nat_lt (byte_at x p % 128) 2) (nat_le (annotation_end x p) (length x)) e
    in annotation_cases x p (eqb (byte_at x p % 128) 0) refl (ltb-true (byte_at x p % 128) 2 parts.0) (leb-true (annotation_end x p) (length x) parts.1)

annotations_cases : (x : List ℕ) (p : ℕ) (b : Bool) (rest : Option BadTypelib) → nat_le 128 (byte_at x p) ≡ b → AnnotationStands x p (annotation_end x p) → cond b None rest ≡ None → (rest ≡ None → (k : ℕ) × AnnotationsStand x (annotation_end x p) k) → (k : ℕ) × AnnotationsStand x p k
annotations_cases x p true rest e stands fine more =
    (zero, (leb-true 128 (byte_at x p) e, (annotation_end x p, stands)))
annotations_cases x p false rest e stands fine more =
    let tail : (k : ℕ) × AnnotationsStand x (annotation_end x p) k = more fine
    in (suc tail.0, (leb-false 128 (byte_at x p) e, (annotation_end x p, (stands, tail.1))))

pub annotations_sound : (x : List ℕ) (n p : ℕ) → annotations_fault x n p ≡ None → (k : ℕ) × AnnotationsStand x p k
unfolding annotations_fault
annotations_sound x zero p e = absurd (cc)
annotations_sound x (suc n) p e =
    let parts : (faulty (not (is_annotation x p)) 5 p ≡ None) × (cond (nat_le 128 (byte_at x p)) None (annotations_fault x n (annotation_end x p)) ≡ None) = orelse_none (faulty (not (is_annotation x p)) 5 p) (cond (nat_le 128 (byte_at x p)) None (annotations_fault x n (annotation_end x p))) e
    in annotations_cases x p (nat_le 128 (byte_at x p)) (annotations_fault x n (annotation_end x p)) refl (annotation_sound x p (not-false (is_annotation x p) (faulty_none (not (is_annotation x p)) 5 p parts.0))) parts.1 (annotations_sound x n (annotation_end x p))

-- ---- annotations that stand

pub annotation_reads : (x : List ℕ) (p q : ℕ) → AnnotationStands x p q → (annotation_end x p ≡ q) × ((byte_at x p % 128 < 2) × (p + 1 ≤ q))
annotation_reads x p q stands =
    elim stands.form as (λ _. (annotation_end x p ≡ q) × ((byte_at x p % 128 < 2) × (p + 1 ≤ q))) [
      | inl h ↦ (let e : eqb (byte_at x p % 128) 0 ≡ true = eq-eqb (byte_at x p % 128) 0 h.0 in ap (λ (b : Bool). cond b (p + 1) (private_end x p)) e ∙ sym h.1, (omega (arith, h.0), omega (arith, h.1)))
      | inr h ↦ (let e : eqb (byte_at x p % 128) 0 ≡ false = ne_eqb (byte_at x p % 128) 0 (omega (arith, h.0)) in ap (λ (b : Bool). cond b (p + 1) (private_end x p)) e ∙ sym h.1, (omega (arith, h.0), omega (arith, h.1)))
    ]

pub annotation_fine : (x : List ℕ) (p q : ℕ) → AnnotationStands x p q → faulty (not (is_annotation x p)) 5 p ≡ None
annotation_fine x p q stands =
    let read : (annotation_end x p ≡ q) × ((byte_at x p % 128 < 2) × (p + 1 ≤ q)) = annotation_reads x p q stands
    in fine_faulty (not (is_annotation x p)) 5 p (not_from_true (is_annotation x p) (and_from (nat_lt (byte_at x p % 128) 2) (nat_le (annotation_end x p) (length x)) (lt-ltb (byte_at x p % 128) 2 read.1.0) (le-leb (annotation_end x p) (length x) (omega (arith, read.0, stands.inside)))))

annotations_short : (x : List ℕ) (p k : ℕ) → AnnotationsStand x p k → p + k < length x
annotations_short x p zero stands = omega (arith, (annotation_reads x p stands.1.0 stands.1.1).1.1, stands.1.1.inside)
annotations_short x p (suc k) stands =
    omega (arith, (annotation_reads x p stands.1.0 stands.1.1.0).1.1, annotations_short x stands.1.0 k stands.1.1.1)

annotations_walk : (x : List ℕ) (n p k : ℕ) → AnnotationsStand x p k → k < n → annotations_fault x n p ≡ None
unfolding annotations_fault
annotations_walk x zero p k stands low = absurd (omega (arith, low))
annotations_walk x (suc n) p zero stands low =
    let last : nat_le 128 (byte_at x p) ≡ true = le-leb 128 (byte_at x p) stands.0
    in none_orelse (faulty (not (is_annotation x p)) 5 p) (cond (nat_le 128 (byte_at x p)) None (annotations_fault x n (annotation_end x p))) (annotation_fine x p stands.1.0 stands.1.1) (ap (λ (b : Bool). cond b None (annotations_fault x n (annotation_end x p))) last)
annotations_walk x (suc n) p (suc k) stands low =
    let more : nat_le 128 (byte_at x p) ≡ false = lt-leb 128 (byte_at x p) stands.0
    in let rest : annotations_fault x n (annotation_end x p) ≡ None = subst (λ (q : ℕ). annotations_fault x n q ≡ None) (sym (annotation_reads x p stands.1.0 stands.1.1.0).0) (annotations_walk x n stands.1.0 k stands.1.1.1 (omega (arith, low)))
    in none_orelse (faulty (not (is_annotation x p)) 5 p) (cond (nat_le 128 (byte_at x p)) None (annotations_fault x n (annotation_end x p))) (annotation_fine x p stands.1.0 stands.1.1.0) (ap (λ (b : Bool). cond b None (annotations_fault x n (annotation_end x p))) more ∙ rest)

pub annotations_fine : (x : List ℕ) (p k : ℕ) → AnnotationsStand x p k → annotations_fault x (length x) p ≡ None
annotations_fine x p k stands =
    annotations_walk x (length x) p k stands (omega (arith, annotations_short x p k stands))

-- ---- the header

-- what a header has that has no fault
pub record IsHeader (x : List ℕ) : Type 0 where
  pub long : 32 ≤ length x
  pub starts : take 16 x ≡ magic
  pub major : byte_at x 16 ≡ 1
  pub minor : byte_at x 17 ≡ 2
  pub file_length : word_at x 20 ≡ length x
  pub annotation_count : ℕ
  pub annotations : AnnotationsStand x 32 annotation_count
  pub directory : 0 < count_of x → 0 < word_at x 24
  pub entries : 0 < count_of x → directory_of x + 28 * count_of x ≤ length x
  pub pool : pool_of x ≤ length x

directory_sound : (x : List ℕ) → is_directory_past x ≡ false → 0 < count_of x → (0 < word_at x 24) × (directory_of x + 28 * count_of x ≤ length x)
directory_sound x e some =
    let Q : Type 0 = (0 < word_at x 24) × (directory_of x + 28 * count_of x ≤ length x)
    in elim (and_cases (not (eqb (count_of x) 0)) (eqb (word_at x 24) 0 || nat_lt (length x) (directory_of x + 28 * count_of x)) e) as (λ _. Q) [
      | inl none ↦ absurd (omega (arith, some, eqb-true (count_of x) 0 (not-false (eqb (count_of x) 0) none)))
      | inr h ↦ let parts : (eqb (word_at x 24) 0 ≡ false) × (nat_lt (length x) (directory_of x + 28 * count_of x) ≡ false) = or_parts (eqb (word_at x 24) 0) (nat_lt (length x) (directory_of x + 28 * count_of x)) h
          in let there : word_at x 24 ≢ 0 = eqb-false (word_at x 24) 0 parts.0
          in (omega arith, ltb-false (length x) (directory_of x + 28 * count_of x) parts.1)
    ]

pub entries_fit : (x : List ℕ) (k : ℕ) → is_directory_past x ≡ false → k < count_of x → directory_of x + 28 * k + 28 ≤ length x
entries_fit x k e low =
    let some : 0 < count_of x = omega (arith, low)
    in omega (arith, low, (directory_sound x e some).1)

pub header_sound : (x : List ℕ) → header_fault x ≡ None → IsHeader x
unfolding header_fault
header_sound x e =
    let m : (faulty (nat_lt (length x) 32) 1 (length x) ≡ None) × (faulty (not (bytes_eq (take 16 x) magic)) 2 0 ≡ None) × (faulty (not (eqb (byte_at x 16) 1 && eqb (byte_at x 17) 2)) 3 16 ≡ None) × (faulty (not (eqb (word_at x 20) (length x))) 4 20 ≡ None) × (annotations_fault x (length x) 32 ≡ None) × (faulty (is_directory_past x) 6 24 ≡ None) × (faulty (nat_lt (length x) (pool_of x)) 7 28 ≡ None) =
    parts7 (faulty (nat_lt (length x) 32) 1 (length x)) (faulty (not (bytes_eq (take 16 x) magic)) 2 0) (faulty (not (eqb (byte_at x 16) 1 && eqb (byte_at x 17) 2)) 3 16) (faulty (not (eqb (word_at x 20) (length x))) 4 20) (annotations_fault x (length x) 32) (faulty (is_directory_past x) 6 24) (faulty (nat_lt (length x) (pool_of x)) 7 28) e
    in let version : (eqb (byte_at x 16) 1 ≡ true) × (eqb (byte_at x 17) 2 ≡ true) = and_parts (eqb (byte_at x 16) 1) (eqb (byte_at x 17) 2) (not-false (eqb (byte_at x 16) 1 && eqb (byte_at x 17) 2) (faulty_none (not (eqb (byte_at x 16) 1 && eqb (byte_at x 17) 2)) 3 16 m.2))
    in let notes : (k : ℕ) × AnnotationsStand x 32 k = annotations_sound x (length x) 32 m.4
    in let inside : is_directory_past x ≡ false = faulty_none (is_directory_past x) 6 24 m.5
    in record {
      long = ltb-false (length x) 32 (faulty_none (nat_lt (length x) 32) 1 (length x) m.0);
      starts = (bytes_eq-Decides (take 16 x) magic).0 (not-false (bytes_eq (take 16 x) magic) (faulty_none (not (bytes_eq (take 16 x) magic)) 2 0 m.1));
      major = eqb-true (byte_at x 16) 1 version.0;
      minor = eqb-true (byte_at x 17) 2 version.1;
      file_length = eqb-true (word_at x 20) (length x) (not-false (eqb (word_at x 20) (length x)) (faulty_none (not (eqb (word_at x 20) (length x))) 4 20 m.3));
      annotation_count = notes.0;
      annotations = notes.1;
      directory = λ some. (directory_sound x inside some).0;
      entries = λ some. (directory_sound x inside some).1;
      pool = ltb-false (length x) (pool_of x) (faulty_none (nat_lt (length x) (pool_of x)) 7 28 m.6);
    }

directory_fine : (x : List ℕ) → IsHeader x → is_directory_past x ≡ false
directory_fine x is =
    elim (eqb_tells (count_of x) 0) as (λ _. is_directory_past x ≡ false) [
      | inl none ↦ and_left (not (eqb (count_of x) 0)) (eqb (word_at x 24) 0 || nat_lt (length x) (directory_of x + 28 * count_of x)) (not_from_true (eqb (count_of x) 0) none.0)
      | inr some ↦ let above : 0 < count_of x = omega (arith, some.1)
          in and_right (not (eqb (count_of x) 0)) (eqb (word_at x 24) 0 || nat_lt (length x) (directory_of x + 28 * count_of x)) (or_from (eqb (word_at x 24) 0) (nat_lt (length x) (directory_of x + 28 * count_of x)) (ne_eqb (word_at x 24) 0 (omega (arith, is.directory above))) (le-ltb (length x) (directory_of x + 28 * count_of x) (is.entries above)))
    ]

pub header_fine : (x : List ℕ) → IsHeader x → header_fault x ≡ None
unfolding header_fault
header_fine x is =
    let long : faulty (nat_lt (length x) 32) 1 (length x) ≡ None = fine_faulty (nat_lt (length x) 32) 1 (length x) (le-ltb (length x) 32 is.long)
    in let starts : faulty (not (bytes_eq (take 16 x) magic)) 2 0 ≡ None = fine_faulty (not (bytes_eq (take 16 x) magic)) 2 0 (not_from_true (bytes_eq (take 16 x) magic) ((bytes_eq-Decides (take 16 x) magic).1 is.starts))
    in let version : faulty (not (eqb (byte_at x 16) 1 && eqb (byte_at x 17) 2)) 3 16 ≡ None = fine_faulty (not (eqb (byte_at x 16) 1 && eqb (byte_at x 17) 2)) 3 16 (not_from_true (eqb (byte_at x 16) 1 && eqb (byte_at x 17) 2) (and_from (eqb (byte_at x 16) 1) (eqb (byte_at x 17) 2) (eq-eqb (byte_at x 16) 1 is.major) (eq-eqb (byte_at x 17) 2 is.minor)))
    in let file : faulty (not (eqb (word_at x 20) (length x))) 4 20 ≡ None = fine_faulty (not (eqb (word_at x 20) (length x))) 4 20 (not_from_true (eqb (word_at x 20) (length x)) (eq-eqb (word_at x 20) (length x) is.file_length))
    in let notes : annotations_fault x (length x) 32 ≡ None = annotations_fine x 32 is.annotation_count is.annotations
    in let directory : faulty (is_directory_past x) 6 24 ≡ None = fine_faulty (is_directory_past x) 6 24 (directory_fine x is)
    in let pool : faulty (nat_lt (length x) (pool_of x)) 7 28 ≡ None = fine_faulty (nat_lt (length x) (pool_of x)) 7 28 (le-ltb (length x) (pool_of x) is.pool)
    in none_orelse (faulty (nat_lt (length x) 32) 1 (length x) orelse faulty (not (bytes_eq (take 16 x) magic)) 2 0 orelse faulty (not (eqb (byte_at x 16) 1 && eqb (byte_at x 17) 2)) 3 16 orelse faulty (not (eqb (word_at x 20) (length x))) 4 20 orelse annotations_fault x (length x) 32 orelse faulty (is_directory_past x) 6 24) (faulty (nat_lt (length x) (pool_of x)) 7 28)
    (none_orelse (faulty (nat_lt (length x) 32) 1 (length x) orelse faulty (not (bytes_eq (take 16 x) magic)) 2 0 orelse faulty (not (eqb (byte_at x 16) 1 && eqb (byte_at x 17) 2)) 3 16 orelse faulty (not (eqb (word_at x 20) (length x))) 4 20 orelse annotations_fault x (length x) 32) (faulty (is_directory_past x) 6 24)
    (none_orelse (faulty (nat_lt (length x) 32) 1 (length x) orelse faulty (not (bytes_eq (take 16 x) magic)) 2 0 orelse faulty (not (eqb (byte_at x 16) 1 && eqb (byte_at x 17) 2)) 3 16 orelse faulty (not (eqb (word_at x 20) (length x))) 4 20) (annotations_fault x (length x) 32)
    (none_orelse (faulty (nat_lt (length x) 32) 1 (length x) orelse faulty (not (bytes_eq (take 16 x) magic)) 2 0 orelse faulty (not (eqb (byte_at x 16) 1 && eqb (byte_at x 17) 2)) 3 16) (faulty (not (eqb (word_at x 20) (length x))) 4 20)
    (none_orelse (faulty (nat_lt (length x) 32) 1 (length x) orelse faulty (not (bytes_eq (take 16 x) magic)) 2 0) (faulty (not (eqb (byte_at x 16) 1 && eqb (byte_at x 17) 2)) 3 16)
    (none_orelse (faulty (nat_lt (length x) 32) 1 (length x)) (faulty (not (bytes_eq (take 16 x) magic)) 2 0) long starts) version) file) notes) directory) pool

-- ---- the loop over annotations, which has taken i of n steps and is at p

step_left : (n i : ℕ) → i < n → n - i ≡ suc (n - (i + 1))
step_left n i low = omega (arith, low)

one_more : (x : List ℕ) (n p : ℕ) → is_annotation x p ≡ true → nat_le 128 (byte_at x p) ≡ false → annotations_fault x (suc n) p ≡ annotations_fault x n (annotation_end x p)
unfolding annotations_fault
one_more x n p is more =
    let fine : faulty (not (is_annotation x p)) 5 p ≡ None = fine_faulty (not (is_annotation x p)) 5 p (not_from_true (is_annotation x p) is)
    in orelse_fine (faulty (not (is_annotation x p)) 5 p) (cond (nat_le 128 (byte_at x p)) None (annotations_fault x n (annotation_end x p))) fine
    ∙ ap (λ (b : Bool). cond b None (annotations_fault x n (annotation_end x p))) more

one_last : (x : List ℕ) (n p : ℕ) → is_annotation x p ≡ true → nat_le 128 (byte_at x p) ≡ true → annotations_fault x (suc n) p ≡ None
unfolding annotations_fault
one_last x n p is last =
    let fine : faulty (not (is_annotation x p)) 5 p ≡ None = fine_faulty (not (is_annotation x p)) 5 p (not_from_true (is_annotation x p) is)
    in orelse_fine (faulty (not (is_annotation x p)) 5 p) (cond (nat_le 128 (byte_at x p)) None (annotations_fault x n (annotation_end x p))) fine
    ∙ ap (λ (b : Bool). cond b None (annotations_fault x n (annotation_end x p))) last

one_bad : (x : List ℕ) (n p : ℕ) → is_annotation x p ≡ false → annotations_fault x (suc n) p ≡ Some (record { code = 5; at = p })
unfolding annotations_fault
one_bad x n p is =
    ap (λ (b : Bool). faulty (not b) 5 p orelse cond (nat_le 128 (byte_at x p)) None (annotations_fault x n (annotation_end x p))) is

pub notes_on : (x : List ℕ) (n i p q : ℕ) → i < n → is_annotation x p ≡ true → byte_at x p < 128 → q ≡ annotation_end x p → annotations_fault x (n - i) p ≡ annotations_fault x (n - (i + 1)) q
notes_on x n i p q low is more end =
    let k : n - i ≡ suc (n - (i + 1)) = step_left n i low
    in let not_last : nat_le 128 (byte_at x p) ≡ false = lt-leb 128 (byte_at x p) more
    in ap (λ (j : ℕ). annotations_fault x j p) k ∙ (one_more x (n - (i + 1)) p is not_last ∙ ap (annotations_fault x (n - (i + 1))) (sym end))

pub notes_last : (x : List ℕ) (n i p : ℕ) → i < n → is_annotation x p ≡ true → 128 ≤ byte_at x p → annotations_fault x (n - i) p ≡ None
notes_last x n i p low is last =
    ap (λ (j : ℕ). annotations_fault x j p) (step_left n i low) ∙ one_last x (n - (i + 1)) p is (le-leb 128 (byte_at x p) last)

pub notes_bad : (x : List ℕ) (n i p : ℕ) → i < n → is_annotation x p ≡ false → annotations_fault x (n - i) p ≡ Some (record { code = 5; at = p })
notes_bad x n i p low is =
    ap (λ (j : ℕ). annotations_fault x j p) (step_left n i low) ∙ one_bad x (n - (i + 1)) p is

pub notes_over : (x : List ℕ) (n i p : ℕ) → n ≤ i → annotations_fault x (n - i) p ≡ Some (record { code = 5; at = p })
unfolding annotations_fault
notes_over x n i p over =
    let k : n - i ≡ 0 = omega arith
    in ap (λ (j : ℕ). annotations_fault x j p) k
