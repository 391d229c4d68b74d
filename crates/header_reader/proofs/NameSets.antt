-- The names of classes: a name's place among them is its class's.
use Rattle.std.proofs.Common.{◌≡◌, ℕ, ◌<◌, Bool, true, false, cond, ltb, List, [], ◌∷◌, ◌++◌, length, map, Option, Some, None, refl, sym, ◌∙◌, ap, subst}
use Rattle.std.specs.Prelude.{position, IfSome}
use Rattle.std.specs.List.{list_any, position_or_len}
use Rattle.std.specs.Str.{bytes_eq}
use Rattle.std.proofs.lemmas.Bool.{ltb-true}
use Rattle.std.proofs.lemmas.List.{map-append, length-map}
use Rattle.std.proofs.lemmas.Option.{cond_some}
use Rattle.std.proofs.lemmas.Slice.Eq.{bytes_eq-Decides}
use Rattle.header_model.specs.declared.decls.Decl.{Decl}
use Rattle.header_model.specs.Declares.{has_name}

-- ---- two lists, one of which has what the other's values give

same_place : {A B : Type 0} (f : A → B) (p : B → Bool) (q : A → Bool) → ((x : A) → p (f x) ≡ q x) → (xs : List A) → position_or_len p (map f xs) ≡ position_or_len q xs
same_place f p q same [] = refl
same_place f p q same (x ∷ xs) = rw (same x, same_place f p q same xs) refl

pub same_number : {A B : Type 0} (f : A → B) (p : B → Bool) (q : A → Bool) → ((x : A) → p (f x) ≡ q x) → (xs : List A) → position p (map f xs) ≡ position q xs
same_number f p q same xs = rw (same_place f p q same xs, length-map xs f) refl

pub same_any : {A B : Type 0} (f : A → B) (p : B → Bool) (q : A → Bool) → ((x : A) → p (f x) ≡ q x) → (xs : List A) → list_any p (map f xs) ≡ list_any q xs
same_any f p q same [] = refl
same_any f p q same (x ∷ xs) = rw (same x, same_any f p q same xs) refl

pub place_within : {A : Type 0} (p : A → Bool) (xs : List A) (n : ℕ) → position p xs ≡ Some n → n < length xs
place_within p xs n is =
    let read = cond_some (ltb (position_or_len p xs) (length xs)) (position_or_len p xs) n is in
    subst (λ k. k < length xs) read.1 (ltb-true (position_or_len p xs) (length xs) read.0)

pub eq_turned : (a b : List ℕ) → bytes_eq a b ≡ bytes_eq b a
eq_turned a b = by_test (bytes_eq a b) (bytes_eq b a) refl refl
  where
    by_test : (t u : Bool) → bytes_eq a b ≡ t → bytes_eq b a ≡ u → t ≡ u
    by_test true true h k = refl
    by_test false false h k = refl
    by_test true false h k = sym ((bytes_eq-Decides b a).1 (sym ((bytes_eq-Decides a b).0 h))) ∙ k
    by_test false true h k = sym h ∙ (bytes_eq-Decides a b).1 (sym ((bytes_eq-Decides b a).0 k))

-- ---- the set, whose keys own the names

-- a new name comes last
pub pushed : {K : Type 0} (items : K → List ℕ) (keys : List K) (key : K) → list_any (λ n. bytes_eq n (items key)) (map items keys) ≡ false
    → map items (cond (list_any (λ k. bytes_eq (items key) (items k)) keys) keys (keys ++ key ∷ [])) ≡ map items keys ++ items key ∷ []
pushed items keys key is_new =
    let test : list_any (λ k. bytes_eq (items key) (items k)) keys ≡ false =
    sym (same_any items (λ n. bytes_eq n (items key)) (λ k. bytes_eq (items key) (items k)) (λ k. eq_turned (items k) (items key)) keys) ∙ is_new in
    rw test (map-append items keys (key ∷ []))

-- ---- the names of classes

-- where a class has the name, it is one of them
pub place_found : {A : Type 0} (p : A → Bool) (xs : List A) (o : Option ℕ) → o ≡ position p xs → IfSome o (λ n. n < length xs)
place_found p xs None is = tt
place_found p xs (Some n) is = place_within p xs n (sym is)

-- a name that no class has is none of theirs
pub unheard : (names : List (List ℕ)) (decls : List Decl) (name same : List ℕ) → names ≡ map (λ d. d.name) decls → same ≡ name
    → list_any (has_name name) decls ≡ false → list_any (λ n. bytes_eq n same) names ≡ false
unheard names decls name same known is fresh =
    ap (list_any (λ n. bytes_eq n same)) known
    ∙ (ap (λ w. list_any (λ n. bytes_eq n w) (map (λ (d : Decl). d.name) decls)) is ∙ (same_any (λ (d : Decl). d.name) (λ n. bytes_eq n name) (has_name name) (λ d. refl) decls ∙ fresh))
