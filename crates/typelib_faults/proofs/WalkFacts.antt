-- Facts on parts that stand one after the other, whatever the parts are.
use Rattle.std.proofs.Common.{◌≡◌, ℕ, zero, suc, ◌+◌, ◌-◌, ◌<◌, ◌≤◌, List, [], ◌∷◌, length, Option, Some, None, Bool, true, false, arith, refl, sym, ap, ◌∙◌, subst, inl, inr, sum_by}
use Rattle.std.specs.Prelude.{All, slice_get}
use Rattle.std.proofs.lemmas.Bool.Decides.{eqb_tells}
use Rattle.std.proofs.lemmas.List.Sums.{sum_by-cons}
use Rattle.lib_model.specs.Denotes.{ListStands}
use Rattle.typelib_faults.specs.declared.cursor.Cursor.{Cursor}
use Rattle.typelib_faults.specs.declared.faults.BadTypelib.{BadTypelib}
use Rattle.typelib_faults.specs.Walk.{faulty, reach, values, walk, ◌orelse◌}

-- ---- faults

pub orelse_none : (f g : Option BadTypelib) → f orelse g ≡ None → (f ≡ None) × (g ≡ None)
orelse_none None g e = (refl, e)
orelse_none (Some f) g e = absurd (cc)

pub orelse_fine : (f g : Option BadTypelib) → f ≡ None → f orelse g ≡ g
orelse_fine None g e = refl
orelse_fine (Some f) g e = absurd (cc)

pub none_orelse : (f g : Option BadTypelib) → f ≡ None → g ≡ None → f orelse g ≡ None
none_orelse None g e h = h
none_orelse (Some f) g e h = absurd (cc)

pub faulty_none : (b : Bool) (code p : ℕ) → faulty b code p ≡ None → b ≡ false
faulty_none true code p e = absurd (cc)
faulty_none false code p e = refl

pub fine_faulty : (b : Bool) (code p : ℕ) → b ≡ false → faulty b code p ≡ None
fine_faulty true code p e = absurd (cc)
fine_faulty false code p e = refl

-- ---- lists

pub all_head : {A : Type 0} (P : A → Type 0) (v : A) (vs : List A) → All P (v ∷ vs) → P v
all_head P v vs all = all 0 v (omega arith)

pub all_tail : {A : Type 0} (P : A → Type 0) (v : A) (vs : List A) → All P (v ∷ vs) → All P vs
all_tail P v vs all = λ k d h. all (suc k) d (omega (arith, h))

pub all_none : {A : Type 0} (P : A → Type 0) → All P []
all_none P = λ k d h. absurd (omega (arith, h))

pub all_cons : {A : Type 0} (P : A → Type 0) (v : A) (vs : List A) → P v → All P vs → All P (v ∷ vs)
all_cons P v vs first rest zero d h = first
all_cons P v vs first rest (suc k) d h = rest k d (omega (arith, h))

pub length_values : {S A : Type 0} (value : S → A) (next : S → S) (s : S) (n : ℕ) → length (values value next s n) ≡ n
length_values value next s zero = refl
length_values value next s (suc n) = omega (arith, length_values value next (next s) n)

-- ---- no fault: the values stand, and have what each has

pub walk_all : {S A : Type 0} (place : S → ℕ) (fault : S → Option BadTypelib) (next : S → S) (value : ℕ → A) (end : ℕ → ℕ) (P : A → Type 0) → ((s : S) → place (next s) ≡ end (place s)) → ((s : S) → fault s ≡ None → P (value (place s))) → (s : S) (n : ℕ) → walk fault next s n ≡ None → All P (values value end (place s) n)
walk_all place fault next value end P steps each s zero e = all_none P
walk_all place fault next value end P steps each s (suc n) e =
    let parts : (fault s ≡ None) × (walk fault next (next s) n ≡ None) = orelse_none (fault s) (walk fault next (next s) n) e
    in all_cons P (value (place s)) (values value end (end (place s)) n) (each s parts.0)
    (subst (λ (p : ℕ). All P (values value end p n)) (steps s) (walk_all place fault next value end P steps each (next s) n parts.1))

pub walk_stands : {A : Type 0} (fault : Cursor → Option BadTypelib) (next : Cursor → Cursor) (value : ℕ → A) (end : ℕ → ℕ) (Stands : ℕ → A → ℕ → Type 0) → ((c : Cursor) → (next c).place ≡ end c.place) → ((c : Cursor) → fault c ≡ None → Stands c.place (value c.place) (end c.place)) → (c : Cursor) (n : ℕ) → walk fault next c n ≡ None → ListStands Stands c.place (values value end c.place n) (reach end c.place n)
walk_stands fault next value end Stands steps each c zero e = refl
walk_stands fault next value end Stands steps each c (suc n) e =
    let parts : (fault c ≡ None) × (walk fault next (next c) n ≡ None) = orelse_none (fault c) (walk fault next (next c) n) e
    in (end c.place, (each c parts.0, subst (λ (p : ℕ). ListStands Stands p (values value end p n) (reach end p n)) (steps c) (walk_stands fault next value end Stands steps each (next c) n parts.1)))

pub reach_place : (next : Cursor → Cursor) (end : ℕ → ℕ) → ((c : Cursor) → (next c).place ≡ end c.place) → (c : Cursor) (n : ℕ) → (reach next c n).place ≡ reach end c.place n
reach_place next end steps c zero = refl
reach_place next end steps c (suc n) =
    reach_place next end steps (next c) n ∙ ap (λ (p : ℕ). reach end p n) (steps c)

-- no fault: as many items have been counted as the values have, and no more than the limit
pub walk_items : {A : Type 0} (limit : ℕ) (fault : Cursor → Option BadTypelib) (next : Cursor → Cursor) (value : ℕ → A) (end : ℕ → ℕ) (size : A → ℕ) → ((c : Cursor) → (next c).place ≡ end c.place) → ((c : Cursor) → fault c ≡ None → ((next c).items ≡ c.items + size (value c.place)) × ((next c).items ≤ limit)) → (c : Cursor) (n : ℕ) → walk fault next c n ≡ None → c.items ≤ limit → ((reach next c n).items ≡ c.items + sum_by size (values value end c.place n)) × ((reach next c n).items ≤ limit)
walk_items limit fault next value end size steps each c zero e few = (omega arith, few)
walk_items limit fault next value end size steps each c (suc n) e few =
    let parts : (fault c ≡ None) × (walk fault next (next c) n ≡ None) = orelse_none (fault c) (walk fault next (next c) n) e
    in let here : ((next c).items ≡ c.items + size (value c.place)) × ((next c).items ≤ limit) = each c parts.0
    in let rest : ((reach next (next c) n).items ≡ (next c).items + sum_by size (values value end (next c).place n)) × ((reach next (next c) n).items ≤ limit) = walk_items limit fault next value end size steps each (next c) n parts.1 here.1
    in let same : sum_by size (values value end (next c).place n) ≡ sum_by size (values value end (end c.place) n) = ap (λ (p : ℕ). sum_by size (values value end p n)) (steps c)
    in (omega (arith, same, rest.0, here.0, sum_by-cons size (value c.place) (values value end (end c.place) n)), rest.1)

-- ---- what stands is read

-- each of these values is the one that is read
pub list_reads : {A : Type 0} (value : ℕ → A) (end : ℕ → ℕ) (Stands : ℕ → A → ℕ → Type 0) (P : A → Type 0) → ((p : ℕ) (v : A) (q : ℕ) → Stands p v q → P v → (value p ≡ v) × (end p ≡ q)) → (p : ℕ) (vs : List A) (q : ℕ) → ListStands Stands p vs q → All P vs → (values value end p (length vs) ≡ vs) × (reach end p (length vs) ≡ q)
list_reads value end Stands P each p [] q stands all = (refl, sym stands)
list_reads value end Stands P each p (v ∷ vs) q stands all =
    let m : ℕ = stands.0
    in let here : (value p ≡ v) × (end p ≡ m) = each p v m stands.1.0 (all_head P v vs all)
    in let rest : (values value end m (length vs) ≡ vs) × (reach end m (length vs) ≡ q) = list_reads value end Stands P each m vs q stands.1.1 (all_tail P v vs all)
    in (rw (here.0, here.1, rest.0) refl, subst (λ (j : ℕ). reach end j (length vs) ≡ q) (sym here.1) rest.1)

-- and has no fault, where the items are few enough
pub list_walk : {A : Type 0} (limit : ℕ) (fault : Cursor → Option BadTypelib) (next : Cursor → Cursor) (end : ℕ → ℕ) (Stands : ℕ → A → ℕ → Type 0) (P : A → Type 0) (size : A → ℕ) → ((c : Cursor) → (next c).place ≡ end c.place) → ((c : Cursor) (v : A) (q : ℕ) → Stands c.place v q → P v → c.items + size v ≤ limit → (fault c ≡ None) × (((next c).items ≡ c.items + size v) × (end c.place ≡ q))) → (c : Cursor) (vs : List A) (q : ℕ) → ListStands Stands c.place vs q → All P vs → c.items + sum_by size vs ≤ limit → (walk fault next c (length vs) ≡ None) × ((reach next c (length vs)).items ≡ c.items + sum_by size vs)
list_walk limit fault next end Stands P size steps each c [] q stands all few = (refl, omega arith)
list_walk limit fault next end Stands P size steps each c (v ∷ vs) q stands all few =
    let m : ℕ = stands.0
    in let sum : sum_by size (v ∷ vs) ≡ size v + sum_by size vs = sum_by-cons size v vs
    in let here : (fault c ≡ None) × (((next c).items ≡ c.items + size v) × (end c.place ≡ m)) = each c v m stands.1.0 (all_head P v vs all) (omega arith)
    in let there : m ≡ (next c).place = sym (steps c ∙ here.1.1)
    in let rest : (walk fault next (next c) (length vs) ≡ None) × ((reach next (next c) (length vs)).items ≡ (next c).items + sum_by size vs) =
    list_walk limit fault next end Stands P size steps each (next c) vs q (subst (λ (p : ℕ). ListStands Stands p vs q) there stands.1.1) (all_tail P v vs all) (omega arith)
    in (none_orelse (fault c) (walk fault next (next c) (length vs)) here.0 rest.0, omega (arith, rest.1, here.1.0, sum))

-- ---- walks that count nothing

pub values_walk : {A : Type 0} (fault : ℕ → Option BadTypelib) (end : ℕ → ℕ) (value : ℕ → A) (P : A → Type 0) → ((p : ℕ) → P (value p) → fault p ≡ None) → (p n : ℕ) → All P (values value end p n) → walk fault end p n ≡ None
values_walk fault end value P each p zero all = refl
values_walk fault end value P each p (suc n) all =
    none_orelse (fault p) (walk fault end (end p) n) (each p (all_head P (value p) (values value end (end p) n) all)) (values_walk fault end value P each (end p) n (all_tail P (value p) (values value end (end p) n) all))

-- over the numbers from k on
pub numbers_none : (fault : ℕ → Option BadTypelib) (k n : ℕ) → walk fault (λ (j : ℕ). j + 1) k n ≡ None → (m : ℕ) → k ≤ m → m < k + n → fault m ≡ None
numbers_none fault k zero e m above below = absurd (omega (arith, above, below))
numbers_none fault k (suc n) e m above below =
    let parts : (fault k ≡ None) × (walk fault (λ (j : ℕ). j + 1) (k + 1) n ≡ None) = orelse_none (fault k) (walk fault (λ (j : ℕ). j + 1) (k + 1) n) e
    in elim (eqb_tells k m) as (λ _. fault m ≡ None) [ inl s ↦ subst (λ (j : ℕ). fault j ≡ None) s.1 parts.0 | inr d ↦ numbers_none fault (k + 1) n parts.1 m (omega (arith, above, d.1)) (omega (arith, below)) ]

pub none_numbers : (fault : ℕ → Option BadTypelib) (k n : ℕ) → ((m : ℕ) → k ≤ m → m < k + n → fault m ≡ None) → walk fault (λ (j : ℕ). j + 1) k n ≡ None
none_numbers fault k zero each = refl
none_numbers fault k (suc n) each =
    none_orelse (fault k) (walk fault (λ (j : ℕ). j + 1) (k + 1) n) (each k (omega arith) (omega arith)) (none_numbers fault (k + 1) n (λ m above below. each m (omega (arith, above)) (omega (arith, below))))

-- ---- chains of faults

pub parts3 : (a b c : Option BadTypelib) → a orelse b orelse c ≡ None → (a ≡ None) × (b ≡ None) × (c ≡ None)
parts3 (Some f) b c e = absurd (cc)
parts3 None b c e =
    let r : (b ≡ None) × (c ≡ None) = orelse_none b c e
    in (refl, r.0, r.1)

pub parts4 : (a b c d : Option BadTypelib) → a orelse b orelse c orelse d ≡ None → (a ≡ None) × (b ≡ None) × (c ≡ None) × (d ≡ None)
parts4 (Some f) b c d e = absurd (cc)
parts4 None b c d e =
    let r : (b ≡ None) × (c ≡ None) × (d ≡ None) = parts3 b c d e
    in (refl, r.0, r.1, r.2)

pub parts5 : (a b c d f : Option BadTypelib) → a orelse b orelse c orelse d orelse f ≡ None → (a ≡ None) × (b ≡ None) × (c ≡ None) × (d ≡ None) × (f ≡ None)
parts5 (Some g) b c d f e = absurd (cc)
parts5 None b c d f e =
    let r : (b ≡ None) × (c ≡ None) × (d ≡ None) × (f ≡ None) = parts4 b c d f e
    in (refl, r.0, r.1, r.2, r.3)

pub parts6 : (a b c d f g : Option BadTypelib) → a orelse b orelse c orelse d orelse f orelse g ≡ None → (a ≡ None) × (b ≡ None) × (c ≡ None) × (d ≡ None) × (f ≡ None) × (g ≡ None)
parts6 (Some h) b c d f g e = absurd (cc)
parts6 None b c d f g e =
    let r : (b ≡ None) × (c ≡ None) × (d ≡ None) × (f ≡ None) × (g ≡ None) = parts5 b c d f g e
    in (refl, r.0, r.1, r.2, r.3, r.4)

pub parts7 : (a b c d f g h : Option BadTypelib) → a orelse b orelse c orelse d orelse f orelse g orelse h ≡ None → (a ≡ None) × (b ≡ None) × (c ≡ None) × (d ≡ None) × (f ≡ None) × (g ≡ None) × (h ≡ None)
parts7 (Some i) b c d f g h e = absurd (cc)
parts7 None b c d f g h e =
    let r : (b ≡ None) × (c ≡ None) × (d ≡ None) × (f ≡ None) × (g ≡ None) × (h ≡ None) = parts6 b c d f g h e
    in (refl, r.0, r.1, r.2, r.3, r.4, r.5)

pub parts8 : (a b c d f g h i : Option BadTypelib) → a orelse b orelse c orelse d orelse f orelse g orelse h orelse i ≡ None → (a ≡ None) × (b ≡ None) × (c ≡ None) × (d ≡ None) × (f ≡ None) × (g ≡ None) × (h ≡ None) × (i ≡ None)
parts8 (Some j) b c d f g h i e = absurd (cc)
parts8 None b c d f g h i e =
    let r : (b ≡ None) × (c ≡ None) × (d ≡ None) × (f ≡ None) × (g ≡ None) × (h ≡ None) × (i ≡ None) = parts7 b c d f g h i e
    in (refl, r.0, r.1, r.2, r.3, r.4, r.5, r.6)

-- ---- sums of ones

pub sum_ones : {A : Type 0} (xs : List A) → sum_by (λ (x : A). 1) xs ≡ length xs
sum_ones {A} [] = refl
sum_ones {A} (x ∷ xs) = omega (arith, sum_by-cons (λ (y : A). 1) x xs, sum_ones xs)

-- ---- loops

-- where i of n parts have been read without a fault: what is left gives what the whole gives
pub record Left {S : Type 0} (f : S → Option BadTypelib) (g : S → S) (a : S) (n : ℕ) (s : S) (i : ℕ) : Type 0 where
  pub fault : walk f g a n ≡ walk f g s (n - i)
  pub ends : reach g a n ≡ reach g s (n - i)

walk_here : {S : Type 0} (f : S → Option BadTypelib) (g : S → S) (s t : S) (n i : ℕ) → i < n → f s ≡ None → t ≡ g s → walk f g s (n - i) ≡ walk f g t (n - (i + 1))
walk_here f g s t n i low fine is =
    let k : n - i ≡ suc (n - (i + 1)) = omega (arith, low)
    in rw (k, fine, is) refl

reach_here : {S : Type 0} (g : S → S) (s t : S) (n i : ℕ) → i < n → t ≡ g s → reach g s (n - i) ≡ reach g t (n - (i + 1))
reach_here g s t n i low is =
    let k : n - i ≡ suc (n - (i + 1)) = omega (arith, low)
    in rw (k, is) refl

pub left_next : {S : Type 0} (f : S → Option BadTypelib) (g : S → S) {a : S} {n : ℕ} {s : S} {i : ℕ} (t : S) → Left f g a n s i → i < n → f s ≡ None → t ≡ g s → Left f g a n t (i + 1)
left_next f g {n = n} {s = s} {i = i} t left low fine is = record {
  fault = left.fault ∙ walk_here f g s t n i low fine is;
  ends = left.ends ∙ reach_here g s t n i low is;
}

pub reach_more : {S : Type 0} (g : S → S) (s : S) (i : ℕ) → reach g s (i + 1) ≡ g (reach g s i)
reach_more g s zero = refl
reach_more g s (suc i) =
    let k : suc i + 1 ≡ suc (i + 1) = omega arith
    in ap (λ (n : ℕ). reach g s n) k ∙ reach_more g (g s) i

-- a part of a walk without a fault has none
pub walk_at : {S : Type 0} (f : S → Option BadTypelib) (g : S → S) (s : S) (n i : ℕ) → walk f g s n ≡ None → i < n → f (reach g s i) ≡ None
walk_at f g s zero i e low = absurd (omega (arith, low))
walk_at f g s (suc n) zero e low = (orelse_none (f s) (walk f g (g s) n) e).0
walk_at f g s (suc n) (suc i) e low = walk_at f g (g s) n i (orelse_none (f s) (walk f g (g s) n) e).1 (omega (arith, low))

pub values_get : {S A : Type 0} (value : S → A) (next : S → S) (s : S) (n k : ℕ) → k < n → slice_get (values value next s n) k ≡ Some (value (reach next s k))
values_get value next s zero k h = absurd (omega (arith, h))
values_get value next s (suc n) zero h = refl
values_get value next s (suc n) (suc k) h = values_get value next (next s) n k (omega (arith, h))

pub values_past : {S A : Type 0} (value : S → A) (next : S → S) (s : S) (n k : ℕ) → n ≤ k → slice_get (values value next s n) k ≡ None
values_past value next s zero k h = refl
values_past value next s (suc n) zero h = absurd (omega (arith, h))
values_past value next s (suc n) (suc k) h = values_past value next (next s) n k (omega (arith, h))

-- at the cursor which so many steps reach: its place, and the value that is read there
pub place_reached : (next : Cursor → Cursor) (end : ℕ → ℕ) → ((c : Cursor) → (next c).place ≡ end c.place) → (c : Cursor) (k : ℕ) (at : Cursor) → at ≡ reach next c k → at.place ≡ reach end c.place k
place_reached next end steps c k at is = ap (λ (s : Cursor). s.place) is ∙ reach_place next end steps c k

pub value_reached : {A : Type 0} (next : Cursor → Cursor) (value : ℕ → A) (end : ℕ → ℕ) → ((c : Cursor) → (next c).place ≡ end c.place) → (c : Cursor) (n k : ℕ) (at : Cursor) → k < n → at ≡ reach next c k → Some (value at.place) ≡ slice_get (values value end c.place n) k
value_reached next value end steps c n k at low is =
    ap (λ (p : ℕ). Some (value p)) (place_reached next end steps c k at is) ∙ sym (values_get value end c.place n k low)

-- one step on
pub step_more : {S : Type 0} (g : S → S) (s a b : S) (i : ℕ) → a ≡ reach g s i → b ≡ g a → b ≡ reach g s (i + 1)
step_more g s a b i is next = next ∙ (ap g is ∙ sym (reach_more g s i))

pub part_fine : {S : Type 0} (f : S → Option BadTypelib) (g : S → S) (s a : S) (n i : ℕ) → walk f g s n ≡ None → i < n → a ≡ reach g s i → f a ≡ None
part_fine {S} f g s a n i e low is = subst (λ (t : S). f t ≡ None) (sym is) (walk_at f g s n i e low)
