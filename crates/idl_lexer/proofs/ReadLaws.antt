-- What std's calls give, as the readers say it.
use Rattle.std.proofs.Common.{◌≡◌, ◌≢◌, ◌≤◌, ◌<◌, ◌+◌, ℕ, zero, suc, Bool, true, false, cond, List, [], ◌∷◌, ◌++◌, length, take, drop, Option, Some, None, refl, sym, ap, arith, one-add, Bor}
use Rattle.std.specs.Option.{option_copied, MatchOption}
use Rattle.std.specs.List.{list_all, prefix_len}
use Rattle.idl_lexer.specs.declared.class.Class.{Class}
use Rattle.idl_lexer.specs.Classes.{is_in}
use Rattle.idl_lexer.specs.Reading.{front, behind, after_literal, after_counted}
use Rattle.idl_lexer.proofs.PartLaws.{literal-reads, literal-again}

pub front_by_length : (class : Class) (bytes : List ℕ) → take (prefix_len (is_in class) bytes) bytes ≡ front class bytes
front_by_length class [] = refl
front_by_length class (c ∷ cs) =
    elim (is_in class c) as (λ t. take (cond t (1 + prefix_len (is_in class) cs) 0) (c ∷ cs) ≡ cond t (c ∷ front class cs) [])
    [ true ↦ rw one-add (ap (λ xs. c ∷ xs) (front_by_length class cs)) | false ↦ refl ]

pub behind_by_length : (class : Class) (bytes : List ℕ) → drop (prefix_len (is_in class) bytes) bytes ≡ behind class bytes
behind_by_length class [] = refl
behind_by_length class (c ∷ cs) =
    elim (is_in class c) as (λ t. drop (cond t (1 + prefix_len (is_in class) cs) 0) (c ∷ cs) ≡ cond t (behind class cs) (c ∷ cs))
    [ true ↦ rw one-add (behind_by_length class cs) | false ↦ refl ]

pub counted_short : (class : Class) (count : ℕ) (bytes : List ℕ) → length bytes < count → after_counted class count bytes ≡ None
counted_short class zero bytes h = absurd (omega arith)
counted_short class (suc count) [] h = refl
counted_short class (suc count) (c ∷ cs) h =
    let n : length cs < count = omega arith in
    elim (is_in class c) as (λ t. cond t (after_counted class count cs) None ≡ None) [ true ↦ counted_short class count cs n | false ↦ refl ]

pub counted_by_all : (class : Class) (count : ℕ) (bytes : List ℕ) → count ≤ length bytes
    → after_counted class count bytes ≡ cond (list_all (is_in class) (take count bytes)) (Some (drop count bytes)) None
counted_by_all class zero bytes h = refl
counted_by_all class (suc count) [] h = absurd (omega arith)
counted_by_all class (suc count) (c ∷ cs) h = by_test (is_in class c) refl (counted_by_all class count cs (omega arith)) where
  by_test : (t : Bool) → is_in class c ≡ t → after_counted class count cs ≡ cond (list_all (is_in class) (take count cs)) (Some (drop count cs)) None
      → cond t (after_counted class count cs) None ≡ cond (list_all (is_in class) (take (suc count) (c ∷ cs))) (Some (drop count cs)) None
  by_test true e more = rw e more
  by_test false e more = rw e refl

pub literal_by_strip : (word bytes : List ℕ) (r : Option (Bor (List ℕ))) → MatchOption r ((rest : List ℕ) → bytes ≢ word ++ rest) (λ x. bytes ≡ word ++ x.now)
    → option_copied r ≡ after_literal word bytes
literal_by_strip word bytes (Some x) h = sym (rw h (literal-again word x.now))
literal_by_strip word bytes None h = by_answer (after_literal word bytes) refl where
  by_answer : (o : Option (List ℕ)) → after_literal word bytes ≡ o → None ≡ o
  by_answer None e = refl
  by_answer (Some rest) e = absurd (h rest (literal-reads word bytes rest e))
