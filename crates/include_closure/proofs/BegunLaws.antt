-- Names that were begun, and the set that knows them.
use Rattle.std.proofs.Common.{◌≡◌, ℕ, Bool, true, false, cond, ◌||◌, List, [], ◌∷◌, ◌++◌, map, refl, sym, ◌∙◌, ap, subst}
use Rattle.std.proofs.lemmas.List.{map-append}
use Rattle.std.proofs.lemmas.List.Folds.{list_any-append}
use Rattle.std.proofs.lemmas.Slice.Eq.{bytes_eq-Decides}
use Rattle.std.specs.List.{list_any}
use Rattle.std.specs.Str.{bytes_eq}
use Rattle.include_closure.specs.Names.{is_begun, with_name}

-- ---- the set, whose keys own the names

pub begun-by : {K : Type 0} (items : K → List ℕ) (keys : List K) (name : List ℕ) → list_any (λ k. bytes_eq name (items k)) keys ≡ is_begun (map items keys) name
begun-by items [] name = refl
begun-by items (k ∷ ks) name = ap (λ b. bytes_eq name (items k) || b) (begun-by items ks name)

inserted : {K : Type 0} (items : K → List ℕ) (keys : List K) (key : K) (b : Bool)
    → map items (cond b keys (keys ++ key ∷ [])) ≡ cond b (map items keys) (map items keys ++ items key ∷ [])
inserted items keys key true = refl
inserted items keys key false = map-append items keys (key ∷ [])

pub begun-insert : {K : Type 0} (items : K → List ℕ) (keys : List K) (key : K)
    → map items (cond (list_any (λ k. bytes_eq (items key) (items k)) keys) keys (keys ++ key ∷ [])) ≡ with_name (map items keys) (items key)
begun-insert items keys key =
    inserted items keys key (list_any (λ k. bytes_eq (items key) (items k)) keys)
    ∙ ap (λ b. cond b (map items keys) (map items keys ++ items key ∷ [])) (begun-by items keys (items key))

-- ---- one name more

or-left : (a b : Bool) → a ≡ true → (a || b) ≡ true
or-left true b h = refl
or-left false b h = absurd cc

or-right : (a b : Bool) → b ≡ true → (a || b) ≡ true
or-right true b h = refl
or-right false b h = h

or-none : (b : Bool) → (b || false) ≡ b
or-none true = refl
or-none false = refl

or-assoc : (a b c : Bool) → (a || (b || c)) ≡ ((a || b) || c)
or-assoc true b c = refl
or-assoc false b c = refl

begun-append : (begun : List (List ℕ)) (name n : List ℕ) → is_begun (begun ++ name ∷ []) n ≡ (is_begun begun n || bytes_eq n name)
begun-append [] name n = or-none (bytes_eq n name)
begun-append (x ∷ xs) name n =
    ap (λ b. bytes_eq n x || b) (begun-append xs name n) ∙ or-assoc (bytes_eq n x) (is_begun xs n) (bytes_eq n name)

-- what was begun stays so
pub begun-later : (begun : List (List ℕ)) (name n : List ℕ) → is_begun begun n ≡ true → is_begun (begun ++ name ∷ []) n ≡ true
begun-later begun name n h = begun-append begun name n ∙ or-left (is_begun begun n) (bytes_eq n name) h

-- and what is begun is begun
pub begun-last : (begun : List (List ℕ)) (name : List ℕ) → is_begun (begun ++ name ∷ []) name ≡ true
begun-last begun name =
    begun-append begun name name ∙ or-right (is_begun begun name) (bytes_eq name name) ((bytes_eq-Decides name name).1 refl)

pub with-fresh : (begun : List (List ℕ)) (name : List ℕ) → is_begun begun name ≡ false → with_name begun name ≡ begun ++ name ∷ []
with-fresh begun name h = rw h refl

pub with-begun : (begun : List (List ℕ)) (name : List ℕ) → is_begun begun name ≡ true → with_name begun name ≡ begun
with-begun begun name h = rw h refl
