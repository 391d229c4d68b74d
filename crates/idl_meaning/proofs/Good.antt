-- What is kept from declaration to declaration: each name is bound to what it should be, and each interface is accepted.
use Rattle.std.proofs.Common.{◌≡◌, ℕ, zero, suc, ◌<◌, ◌≤◌, Bool, true, false, ◌⊎◌, inl, inr, List, [], ◌∷◌, ◌++◌, length, Option, Some, None, refl, sym, ap, ◌∙◌, arith, subst, if◌then◌else◌, true≢false}
use Rattle.std.specs.Prelude.{slice_get, slice_set, IsSomeAnd, IsTrue}
use Rattle.std.specs.Str.{bytes_eq}
use Rattle.std.proofs.lemmas.Slice.Eq.{bytes_eq-Decides}
use Rattle.std.proofs.lemmas.Option.{slice_get_within}
use Rattle.idl_meaning.specs.declared.scope.Meant.{Meant}
use Rattle.idl_meaning.specs.declared.scope.Meant.TheVariants as meant
use Rattle.idl_meaning.specs.declared.scope.ScopeIface.{ScopeIface}
use Rattle.idl_meaning.specs.Meaning.{Names, Bound, Typed, Forward, Defined, learns, meaning_of}
use Rattle.idl_meaning.specs.Scopes.{number_or_next}
use Rattle.idl_meaning.specs.Accepted.{IsMeant, IsAcceptedIface}
use Rattle.idl_meaning.proofs.Methods.{AreMeant}
use Rattle.idl_meaning.proofs.Members.{meant-weaker, members-weaker}

-- ---- one name more

-- what holds of what a name means now, and of what any other meant before, holds of what each means
pub learned-other : {A : Type 0} (P : Option A → Type 0) (old : List ℕ → Option A) (name : List ℕ) (v : Option A) (n : List ℕ) → (name ≡ n → P v)
    → ((name ≡ n → ⊥) → P (old n)) → P (learns old name v n)
learned-other P old name v n here there = go (bytes_eq name n) refl where
  go : (b : Bool) → bytes_eq name n ≡ b → P (if b then v else old n)
  go true is = here ((bytes_eq-Decides name n).0 is)
  go false is = there (λ same. true≢false (sym ((bytes_eq-Decides name n).1 same) ∙ is))

pub learned : {A : Type 0} (P : Option A → Type 0) (old : List ℕ → Option A) (name : List ℕ) (v : Option A) (n : List ℕ) → (name ≡ n → P v) → P (old n)
    → P (learns old name v n)
learned P old name v n here there = learned-other P old name v n here (λ other. there)

pub learned-here : {A : Type 0} (old : List ℕ → Option A) (name : List ℕ) (v : Option A) → learns old name v name ≡ v
learned-here old name v = ap (λ b. if b then v else old name) ((bytes_eq-Decides name name).1 refl)

-- ---- one interface more, or another in place of one

pub record Placed (old new : List ScopeIface) (number : ℕ) (x : ScopeIface) : Type 0 where
  pub grows : length old ≤ length new
  pub here : slice_get new number ≡ Some x
  pub from : (k : ℕ) (i : ScopeIface) → slice_get new k ≡ Some i → ((k ≡ number) × (x ≡ i)) ⊎ (slice_get old k ≡ Some i)
  pub kept : (k : ℕ) (i : ScopeIface) → slice_get old k ≡ Some i → (k ≡ number) ⊎ (slice_get new k ≡ Some i)

last-here : (xs : List ScopeIface) (x : ScopeIface) → slice_get (xs ++ x ∷ []) (length xs) ≡ Some x
last-here [] x = refl
last-here (y ∷ xs) x = last-here xs x

pub last-from : (xs : List ScopeIface) (x : ScopeIface) (k : ℕ) (i : ScopeIface) → slice_get (xs ++ x ∷ []) k ≡ Some i
    → ((k ≡ length xs) × (x ≡ i)) ⊎ (slice_get xs k ≡ Some i)
last-from [] x zero i e = inl (refl, let same : x ≡ i = cc in same)
last-from [] x (suc k) i e = absurd cc
last-from (y ∷ xs) x zero i e = inr e
last-from (y ∷ xs) x (suc k) i e = go (last-from xs x k i e) where
  go : ((k ≡ length xs) × (x ≡ i)) ⊎ (slice_get xs k ≡ Some i) → ((suc k ≡ suc (length xs)) × (x ≡ i)) ⊎ (slice_get xs k ≡ Some i)
  go (inl h) = inl (ap suc h.0, h.1)
  go (inr h) = inr h

last-kept : (xs : List ScopeIface) (x : ScopeIface) (k : ℕ) (i : ScopeIface) → slice_get xs k ≡ Some i → slice_get (xs ++ x ∷ []) k ≡ Some i
last-kept [] x k i e = absurd cc
last-kept (y ∷ xs) x zero i e = e
last-kept (y ∷ xs) x (suc k) i e = last-kept xs x k i e

last-grows : (xs : List ScopeIface) (x : ScopeIface) → length xs ≤ length (xs ++ x ∷ [])
last-grows [] x = omega arith
last-grows (y ∷ xs) x = let h = last-grows xs x in omega arith

pub placed-last : (xs : List ScopeIface) (x : ScopeIface) → Placed xs (xs ++ x ∷ []) (length xs) x
placed-last xs x = record {
  grows = last-grows xs x;
  here = last-here xs x;
  from = last-from xs x;
  kept = λ k i e. inr (last-kept xs x k i e);
}

set-here : (xs : List ScopeIface) (n : ℕ) (x : ScopeIface) → n < length xs → slice_get (slice_set xs n x) n ≡ Some x
set-here [] n x h = absurd (omega arith)
set-here (y ∷ xs) zero x h = refl
set-here (y ∷ xs) (suc n) x h = set-here xs n x (omega arith)

pub set-from : (xs : List ScopeIface) (n : ℕ) (x : ScopeIface) (k : ℕ) (i : ScopeIface) → slice_get (slice_set xs n x) k ≡ Some i
    → ((k ≡ n) × (x ≡ i)) ⊎ (slice_get xs k ≡ Some i)
set-from [] n x k i e = absurd cc
set-from (y ∷ xs) zero x zero i e = inl (refl, let same : x ≡ i = cc in same)
set-from (y ∷ xs) zero x (suc k) i e = inr e
set-from (y ∷ xs) (suc n) x zero i e = inr e
set-from (y ∷ xs) (suc n) x (suc k) i e = go (set-from xs n x k i e) where
  go : ((k ≡ n) × (x ≡ i)) ⊎ (slice_get xs k ≡ Some i) → ((suc k ≡ suc n) × (x ≡ i)) ⊎ (slice_get xs k ≡ Some i)
  go (inl h) = inl (ap suc h.0, h.1)
  go (inr h) = inr h

set-kept : (xs : List ScopeIface) (n : ℕ) (x : ScopeIface) (k : ℕ) (i : ScopeIface) → slice_get xs k ≡ Some i
    → (k ≡ n) ⊎ (slice_get (slice_set xs n x) k ≡ Some i)
set-kept [] n x k i e = absurd cc
set-kept (y ∷ xs) zero x zero i e = inl refl
set-kept (y ∷ xs) zero x (suc k) i e = inr e
set-kept (y ∷ xs) (suc n) x zero i e = inr e
set-kept (y ∷ xs) (suc n) x (suc k) i e = go (set-kept xs n x k i e) where
  go : (k ≡ n) ⊎ (slice_get (slice_set xs n x) k ≡ Some i) → (suc k ≡ suc n) ⊎ (slice_get (slice_set xs n x) k ≡ Some i)
  go (inl h) = inl (ap suc h)
  go (inr h) = inr h

set-grows : (xs : List ScopeIface) (n : ℕ) (x : ScopeIface) → length xs ≤ length (slice_set xs n x)
set-grows [] n x = omega arith
set-grows (y ∷ xs) zero x = omega arith
set-grows (y ∷ xs) (suc n) x = let h = set-grows xs n x in omega arith

pub placed-set : (xs : List ScopeIface) (n : ℕ) (x : ScopeIface) → n < length xs → Placed xs (slice_set xs n x) n x
placed-set xs n x h = record {
  grows = set-grows xs n x;
  here = set-here xs n x h;
  from = set-from xs n x;
  kept = set-kept xs n x;
}

-- ---- what is kept

-- the number of the interface that a name is bound to
abbrev pub as_iface : Option Bound → Option ℕ
as_iface None = None
as_iface (Some (Typed m)) = None
as_iface (Some (Forward number)) = Some number
as_iface (Some (Defined number rank)) = Some number

-- the interface of this number is there, and defined
abbrev pub IsDefinedAt : List ScopeIface → ℕ → Type 0
IsDefinedAt ifaces number = IsSomeAnd (slice_get ifaces number) (λ q. IsTrue q.defined)

pub record IsGood (names : Names) (ifaces : List ScopeIface) : Type 0 where
  pub meanings : AreMeant (length ifaces) names
  pub each : (k : ℕ) (i : ScopeIface) → slice_get ifaces k ≡ Some i → IsAcceptedIface ifaces i
  pub numbered : (k : ℕ) (i : ScopeIface) → slice_get ifaces k ≡ Some i → as_iface (names i.name) ≡ Some k
  pub defined_there : (name : List ℕ) (number rank : ℕ) → names name ≡ Some (Defined number rank) → IsDefinedAt ifaces number

-- a name for a type
pub good-typed : (names : Names) (ifaces : List ScopeIface) (name : List ℕ) (m : Meant) → IsGood names ifaces → names name ≡ None → IsMeant (length ifaces) m
    → IsGood (learns names name (Some (Typed m))) ifaces
good-typed names ifaces name m good none ok = record {
  meanings = λ n b.
      learned (λ o. o ≡ Some b → IsMeant (length ifaces) (meaning_of b)) names name (Some (Typed m)) n
      (λ here e. let same : Typed m ≡ b = cc in subst (λ (c : Bound). IsMeant (length ifaces) (meaning_of c)) same ok)
      (good.meanings n b);
  each = good.each;
  numbered = λ k i e.
      learned (λ o. as_iface o ≡ Some k) names name (Some (Typed m)) i.name
      (λ here. absurd (let was = good.numbered k i e in let nothing_there : names i.name ≡ None = subst (λ (n : List ℕ). names n ≡ None) here none in clash (names i.name) k nothing_there was))
      (good.numbered k i e);
  defined_there = λ n number rank.
      learned (λ o. o ≡ Some (Defined number rank) → IsDefinedAt ifaces number) names name (Some (Typed m)) n
      (λ here e. absurd cc)
      (good.defined_there n number rank);
} where
  clash : (o : Option Bound) (k : ℕ) → o ≡ None → as_iface o ≡ Some k → ⊥
  clash None k e h = absurd cc
  clash (Some b) k e h = absurd cc

pub some-and : (P : ScopeIface → Type 0) (o : Option ScopeIface) → IsSomeAnd o P → (q : ScopeIface) × (o ≡ Some q) × P q
some-and P None h = absurd h
some-and P (Some q) h = (q, refl, h)

pub and-some : (P : ScopeIface → Type 0) (o : Option ScopeIface) (q : ScopeIface) → o ≡ Some q → P q → IsSomeAnd o P
and-some P o q e h = subst (λ (p : Option ScopeIface). IsSomeAnd p P) (sym e) h

-- what was defined stays defined
pub defined-kept : (old new : List ScopeIface) (number : ℕ) (x : ScopeIface) → Placed old new number x → (slice_get old number ≡ None) ⊎ IsTrue x.defined
    → (k : ℕ) → IsDefinedAt old k → IsDefinedAt new k
defined-kept old new number x placed marks k h =
    let r = some-and (λ q. IsTrue q.defined) (slice_get old k) h in
    go r.0 r.1 r.2 (placed.kept k r.0 r.1) where
      go : (q : ScopeIface) → slice_get old k ≡ Some q → IsTrue q.defined → (k ≡ number) ⊎ (slice_get new k ≡ Some q) → IsDefinedAt new k
      go q at is (inl same) = at_number marks where
        at_number : (slice_get old number ≡ None) ⊎ IsTrue x.defined → IsDefinedAt new k
        at_number (inl none) = absurd (let there : slice_get old number ≡ Some q = subst (λ (n : ℕ). slice_get old n ≡ Some q) same at in cc)
        at_number (inr defined) = and-some (λ q. IsTrue q.defined) (slice_get new k) x (ap (slice_get new) same ∙ placed.here) defined
      go q at is (inr there) = and-some (λ q. IsTrue q.defined) (slice_get new k) q there is

-- an interface stays accepted
iface-kept : (old new : List ScopeIface) (number : ℕ) (x : ScopeIface) → Placed old new number x → (slice_get old number ≡ None) ⊎ IsTrue x.defined
    → (i : ScopeIface) → IsAcceptedIface old i → IsAcceptedIface new i
iface-kept old new number x placed marks i h = record {
  identifier = h.identifier;
  flags = h.flags;
  members = members-weaker (length old) (length new) placed.grows i.members h.members;
  members_differ = h.members_differ;
  natives_hidden = h.natives_hidden;
  extends = λ p e. defined-kept old new number x placed marks p (h.extends p e);
  unidentified = h.unidentified;
  parentless = h.parentless;
  memberless = h.memberless;
}

pub number-is : (o : Option Bound) (next k : ℕ) → as_iface o ≡ Some k → number_or_next o next ≡ k
number-is None next k e = absurd cc
number-is (Some (Typed m)) next k e = absurd cc
number-is (Some (Forward number)) next k e = let same : number ≡ k = cc in same
number-is (Some (Defined number rank)) next k e = let same : number ≡ k = cc in same

-- the names, with one more interface
pub meant-placed : (names : Names) (old new : List ScopeIface) (name : List ℕ) (number : ℕ) (b : Bound) (x : ScopeIface) → AreMeant (length old) names
    → Placed old new number x → meaning_of b ≡ meant.Iface number → AreMeant (length new) (learns names name (Some b))
meant-placed names old new name number b x good placed is n c =
    learned (λ o. o ≡ Some c → IsMeant (length new) (meaning_of c)) names name (Some b) n
    (λ here e.
    let same : b ≡ c = cc in
    subst (λ (d : Bound). IsMeant (length new) (meaning_of d)) same
    (subst (λ (m : Meant). IsMeant (length new) m) (sym is) (slice_get_within new number x placed.here)))
    (λ e. meant-weaker (length old) (length new) placed.grows (meaning_of c) (good n c e))

-- an interface that is declared
pub good-placed : (names : Names) (old new : List ScopeIface) (name : List ℕ) (number : ℕ) (b : Bound) (x : ScopeIface) → IsGood names old → Placed old new number x
    → number ≡ number_or_next (names name) (length old) → x.name ≡ name → meaning_of b ≡ meant.Iface number → as_iface (Some b) ≡ Some number
    → (slice_get old number ≡ None) ⊎ IsTrue x.defined → ((n rank : ℕ) → b ≡ Defined n rank → IsTrue x.defined) → IsAcceptedIface new x
    → IsGood (learns names name (Some b)) new
good-placed names old new name number b x good placed next named is same_number marks defines ok = record {
  meanings = meant-placed names old new name number b x good.meanings placed is;
  each = λ k i e. each_of k i (placed.from k i e);
  numbered = λ k i e. numbered_of k i (placed.from k i e);
  defined_there = λ n at rank.
      learned (λ o. o ≡ Some (Defined at rank) → IsDefinedAt new at) names name (Some b) n
      (λ here e.
      let same : b ≡ Defined at rank = cc in
      let where_it_is : number ≡ at = let h : as_iface (Some (Defined at rank)) ≡ Some number = subst (λ (c : Bound). as_iface (Some c) ≡ Some number) same same_number in cc in
      subst (λ (j : ℕ). IsDefinedAt new j) where_it_is (and-some (λ q. IsTrue q.defined) (slice_get new number) x placed.here (defines at rank same)))
      (λ e. defined-kept old new number x placed marks at (good.defined_there n at rank e));
} where
  each_of : (k : ℕ) (i : ScopeIface) → ((k ≡ number) × (x ≡ i)) ⊎ (slice_get old k ≡ Some i) → IsAcceptedIface new i
  each_of k i (inl h) = subst (λ (j : ScopeIface). IsAcceptedIface new j) h.1 ok
  each_of k i (inr h) = iface-kept old new number x placed marks i (good.each k i h)

  numbered_of : (k : ℕ) (i : ScopeIface) → ((k ≡ number) × (x ≡ i)) ⊎ (slice_get old k ≡ Some i) → as_iface (learns names name (Some b) i.name) ≡ Some k
  numbered_of k i (inl h) =
      let own : i.name ≡ name = sym (ap (λ (j : ScopeIface). j.name) h.1) ∙ named in
      ap (λ (n : List ℕ). as_iface (learns names name (Some b) n)) own ∙ ap as_iface (learned-here names name (Some b)) ∙ same_number ∙ ap Some (sym h.0)
  numbered_of k i (inr h) =
      let was : as_iface (names i.name) ≡ Some k = good.numbered k i h in
      learned (λ o. as_iface o ≡ Some k) names name (Some b) i.name
      (λ here.
      same_number ∙ ap Some (next ∙ number-is (names name) (length old) k (subst (λ (n : List ℕ). as_iface (names n) ≡ Some k) (sym here) was)))
      was
