-- The entries by which a header's classes are ordered: each is of a defined interface, they rise,
-- and every defined interface has one.
use Rattle.std.proofs.Common.{◌≡◌, ◌⊎◌, inl, inr, ℕ, zero, suc, ◌+◌, ◌<◌, Bool, true, false, List, [], ◌∷◌, Some, None, IsTrue, refl, sym, ap, ◌∙◌, subst, arith, slice_get, if◌then◌else◌}
use Rattle.std.specs.List.{AllByRecursion}
use Rattle.std.specs.declared.cmp.Ordering.{Ordering}
use Rattle.std.specs.declared.cmp.Ordering.TheVariants.{Less, Equal, Greater}
use Rattle.std.specs.Ordering.{match_ordering, nat_cmp, ordering_then}
use Rattle.std.specs.Cmp.{ranked}
use Rattle.std_collections.specs.BTreeMap.{insert_entry}
use Rattle.idl_meaning.specs.declared.scope.ScopeIface.{ScopeIface}
use Rattle.idl_meaning.specs.Accepted.{AreApart}
use Rattle.prototype_lowering.proofs.ScopeFacts.{weaker}
use Rattle.header_text.specs.Order.{Spot, placed, spot_cmp, spot_of}

-- an earlier place
abbrev pub IsBelow : Spot → Spot → Type 0
IsBelow a b = (a.0 < b.0) ⊎ ((a.0 ≡ b.0) × (a.1 < b.1))

-- one of a list
unfoldable pub IsIn : {X : Type 0} → X → List X → Type 0
IsIn x [] = ⊥
IsIn x (y ∷ ys) = (x ≡ y) ⊎ IsIn x ys

abbrev pub Entry : Type 0
Entry = Spot × ℕ

-- each entry is below those behind it
unfoldable pub Rises : List Entry → Type 0
Rises [] = Unit {0}
Rises (e ∷ es) = AllByRecursion (λ (f : Entry). IsBelow e.0 f.0) es × Rises es

-- the entry of a defined interface
pub record IsEntryOf (ifaces : List ScopeIface) (e : Entry) : Type 0 where
  pub iface : ScopeIface
  pub found : slice_get ifaces e.1 ≡ Some iface
  pub marked : IsTrue iface.defined
  pub spotted : e.0 ≡ spot_of iface

pub record AreEntries (ifaces : List ScopeIface) (es : List Entry) : Type 0 where
  pub each : AllByRecursion (IsEntryOf ifaces) es
  pub rise : Rises es

-- ---- places

pub below-trans : (a b c : Spot) → IsBelow a b → IsBelow b c → IsBelow a c
below-trans a b c (inl x) (inl y) = inl (omega (arith, x, y))
below-trans a b c (inl x) (inr y) = inl (let same = y.0 in omega (arith, x, same))
below-trans a b c (inr x) (inl y) = inl (let same = x.0 in omega (arith, y, same))
below-trans a b c (inr x) (inr y) =
    inr (x.0 ∙ y.0, let first = x.1 in let second = y.1 in omega (arith, first, second))

spot-less : (a b : Spot) → spot_cmp a b ≡ Less → IsBelow a b
spot-less a b h = go (nat_cmp a.0 b.0) refl h
  where
    go : (o : Ordering) → nat_cmp a.0 b.0 ≡ o → ordering_then o (nat_cmp a.1 b.1) ≡ Less
        → IsBelow a b
    go Less e k = inl (ranked a.0 b.0 Less (sym e))
    go Equal e k = inr (ranked a.0 b.0 Equal (sym e), ranked a.1 b.1 Less (sym k))
    go Greater e k = absurd (let no : Greater ≡ Less = k in cc)

spot-greater : (a b : Spot) → spot_cmp a b ≡ Greater → IsBelow b a
spot-greater a b h = go (nat_cmp a.0 b.0) refl h
  where
    go : (o : Ordering) → nat_cmp a.0 b.0 ≡ o → ordering_then o (nat_cmp a.1 b.1) ≡ Greater
        → IsBelow b a
    go Less e k = absurd (let no : Less ≡ Greater = k in cc)
    go Equal e k = inr (sym (ranked a.0 b.0 Equal (sym e)), ranked a.1 b.1 Greater (sym k))
    go Greater e k = inl (ranked a.0 b.0 Greater (sym e))

spot-equal : (a b : Spot) → spot_cmp a b ≡ Equal → a ≡ b
spot-equal a b h = go (nat_cmp a.0 b.0) refl h
  where
    go : (o : Ordering) → nat_cmp a.0 b.0 ≡ o → ordering_then o (nat_cmp a.1 b.1) ≡ Equal → a ≡ b
    go Less e k = absurd (let no : Less ≡ Equal = k in cc)
    go Equal e k = λ j. (ranked a.0 b.0 Equal (sym e) j, ranked a.1 b.1 Equal (sym k) j)
    go Greater e k = absurd (let no : Greater ≡ Equal = k in cc)

-- ---- one entry more

all_inserted : (P : Entry → Type 0) (es : List Entry) (key : Spot) (v : ℕ) → P (key, v)
    → AllByRecursion P es → AllByRecursion P (insert_entry spot_cmp es key v)
all_inserted P [] key v here all = (here, tt)
all_inserted P (e ∷ es) key v here all =
    go (spot_cmp key e.0) refl (all_inserted P es key v here all.1)
  where
    go : (o : Ordering) → spot_cmp key e.0 ≡ o
        → AllByRecursion P (insert_entry spot_cmp es key v)
        → AllByRecursion P
        (match_ordering o ((key, v) ∷ e ∷ es) ((e.0, v) ∷ es) (e ∷ insert_entry spot_cmp es key v))
    go Less h rest = (here, all)
    go Equal h rest =
        (subst P (ap (λ (s : Spot). (s, v)) (spot-equal key e.0 h)) here, all.1)
    go Greater h rest = (all.0, rest)

rises_inserted : (es : List Entry) (key : Spot) (v : ℕ) → Rises es
    → Rises (insert_entry spot_cmp es key v)
unfolding Rises
rises_inserted [] key v h = (tt, tt)
rises_inserted (e ∷ es) key v h = go (spot_cmp key e.0) refl (rises_inserted es key v h.1)
  where
    go : (o : Ordering) → spot_cmp key e.0 ≡ o → Rises (insert_entry spot_cmp es key v)
        → Rises
        (match_ordering o ((key, v) ∷ e ∷ es) ((e.0, v) ∷ es) (e ∷ insert_entry spot_cmp es key v))
    go Less at rest =
        let first = spot-less key e.0 at
        in (
          (
            first,
            weaker (λ (f : Entry). IsBelow e.0 f.0) (λ (f : Entry). IsBelow key f.0)
                (λ f below. below-trans key e.0 f.0 first below) es h.0,
          ),
          h,
        )
    go Equal at rest = h
    go Greater at rest =
        (all_inserted (λ (f : Entry). IsBelow e.0 f.0) es key v (spot-greater key e.0 at) h.0, rest)

has_inserted : (es : List Entry) (key : Spot) (v : ℕ)
    → IsIn (key, v) (insert_entry spot_cmp es key v)
unfolding IsIn
has_inserted [] key v = inl refl
has_inserted (e ∷ es) key v = go (spot_cmp key e.0) refl (has_inserted es key v)
  where
    go : (o : Ordering) → spot_cmp key e.0 ≡ o → IsIn (key, v) (insert_entry spot_cmp es key v)
        → IsIn (key, v)
        (match_ordering o ((key, v) ∷ e ∷ es) ((e.0, v) ∷ es) (e ∷ insert_entry spot_cmp es key v))
    go Less at rest = inl refl
    go Equal at rest = inl (ap (λ (s : Spot). (s, v)) (spot-equal key e.0 at))
    go Greater at rest = inr rest

-- entries of one place are of one interface
same_number : (ifaces : List ScopeIface) → AreApart ifaces → (d e : Entry) → IsEntryOf ifaces d
    → IsEntryOf ifaces e → d.0 ≡ e.0 → d ≡ e
same_number ifaces apart d e left right same =
    let places : spot_of left.iface ≡ spot_of right.iface = sym left.spotted ∙ same ∙ right.spotted
    in let number : d.1 ≡ e.1 =
    apart d.1 e.1 left.iface right.iface left.found right.found left.marked right.marked
    (ap (λ (s : Spot). s.0) places) (ap (λ (s : Spot). s.1) places)
    in λ j. (same j, number j)

kept_inserted : (ifaces : List ScopeIface) → AreApart ifaces → (f : Entry) (es : List Entry)
    (key : Spot) (v : ℕ) → IsEntryOf ifaces (key, v) → AllByRecursion (IsEntryOf ifaces) es
    → IsIn f es → IsIn f (insert_entry spot_cmp es key v)
unfolding IsIn
kept_inserted ifaces apart f [] key v new all h = absurd h
kept_inserted ifaces apart f (e ∷ es) key v new all h =
    go (spot_cmp key e.0) refl h (kept_inserted ifaces apart f es key v new all.1)
  where
    go : (o : Ordering) → spot_cmp key e.0 ≡ o → (f ≡ e) ⊎ IsIn f es
        → (IsIn f es → IsIn f (insert_entry spot_cmp es key v))
        → IsIn f
        (match_ordering o ((key, v) ∷ e ∷ es) ((e.0, v) ∷ es) (e ∷ insert_entry spot_cmp es key v))
    go Less at is rest = inr is
    go Equal at (inl is) rest =
        inl (is ∙ (λ j. (
          e.0,
          sym
              (ap (λ (d : Entry). d.1)
              (same_number ifaces apart (key, v) e new all.0 (spot-equal key e.0 at))) j,
        )))
    go Equal at (inr is) rest = inr is
    go Greater at (inl is) rest = inl is
    go Greater at (inr is) rest = inr (rest is)

-- ---- all entries

-- these interfaces stand from number k on
abbrev StandFrom : List ScopeIface → ℕ → List ScopeIface → Type 0
StandFrom ifaces k more =
    (j : ℕ) (i : ScopeIface) → slice_get more j ≡ Some i → slice_get ifaces (k + j) ≡ Some i

later : (ifaces : List ScopeIface) (k : ℕ) (i : ScopeIface) (more : List ScopeIface)
    → StandFrom ifaces k (i ∷ more) → StandFrom ifaces (k + 1) more
later ifaces k i more h j x is =
    let same : k + 1 + j ≡ k + suc j = omega arith
    in ap (slice_get ifaces) same ∙ h (suc j) x is

here : (ifaces : List ScopeIface) (k : ℕ) (i : ScopeIface) (more : List ScopeIface)
    → StandFrom ifaces k (i ∷ more) → slice_get ifaces k ≡ Some i
here ifaces k i more h =
    let same : k ≡ k + 0 = omega arith in ap (slice_get ifaces) same ∙ h 0 i refl

made : (ifaces : List ScopeIface) (k : ℕ) (i : ScopeIface) → slice_get ifaces k ≡ Some i
    → IsTrue i.defined → IsEntryOf ifaces (spot_of i, k)
made ifaces k i at is = record { iface = i; found = at; marked = is; spotted = refl }

abbrev stepped : List Entry → ℕ → ScopeIface → Bool → List Entry
stepped es k i b = if b then insert_entry spot_cmp es (spot_of i) k else es

entries_step : (ifaces : List ScopeIface) (es : List Entry) (k : ℕ) (i : ScopeIface)
    → slice_get ifaces k ≡ Some i → AreEntries ifaces es → (b : Bool) → i.defined ≡ b
    → AreEntries ifaces (stepped es k i b)
entries_step ifaces es k i at are true is = record {
  each = all_inserted (IsEntryOf ifaces) es (spot_of i) k (made ifaces k i at is) are.each;
  rise = rises_inserted es (spot_of i) k are.rise;
}
entries_step ifaces es k i at are false is = are

kept_step : (ifaces : List ScopeIface) → AreApart ifaces → (f : Entry) (es : List Entry) (k : ℕ)
    (i : ScopeIface) → slice_get ifaces k ≡ Some i → AreEntries ifaces es → (b : Bool)
    → i.defined ≡ b → IsIn f es → IsIn f (stepped es k i b)
kept_step ifaces apart f es k i at are true is h =
    kept_inserted ifaces apart f es (spot_of i) k (made ifaces k i at is) are.each h
kept_step ifaces apart f es k i at are false is h = h

has_step : (es : List Entry) (k : ℕ) (i : ScopeIface) (b : Bool) → b ≡ true
    → IsIn (spot_of i, k) (stepped es k i b)
has_step es k i true is = has_inserted es (spot_of i) k
has_step es k i false is = absurd (let no : false ≡ true = is in cc)

pub placed_entries : (ifaces : List ScopeIface) (es : List Entry) (k : ℕ) (more : List ScopeIface)
    → StandFrom ifaces k more → AreEntries ifaces es → AreEntries ifaces (placed es k more)
placed_entries ifaces es k [] stand are = are
placed_entries ifaces es k (i ∷ more) stand are =
    placed_entries ifaces (stepped es k i i.defined) (k + 1) more (later ifaces k i more stand)
    (entries_step ifaces es k i (here ifaces k i more stand) are i.defined refl)

placed_keeps : (ifaces : List ScopeIface) → AreApart ifaces → (f : Entry) (es : List Entry) (k : ℕ)
    (more : List ScopeIface) → StandFrom ifaces k more → AreEntries ifaces es → IsIn f es
    → IsIn f (placed es k more)
placed_keeps ifaces apart f es k [] stand are h = h
placed_keeps ifaces apart f es k (i ∷ more) stand are h =
    let at = here ifaces k i more stand
    in placed_keeps ifaces apart f (stepped es k i i.defined) (k + 1) more
    (later ifaces k i more stand) (entries_step ifaces es k i at are i.defined refl)
    (kept_step ifaces apart f es k i at are i.defined refl h)

pub placed_has : (ifaces : List ScopeIface) → AreApart ifaces → (es : List Entry) (k : ℕ)
    (more : List ScopeIface) → StandFrom ifaces k more → AreEntries ifaces es → (j : ℕ)
    (i : ScopeIface) → slice_get more j ≡ Some i → IsTrue i.defined
    → IsIn (spot_of i, k + j) (placed es k more)
placed_has ifaces apart es k [] stand are j i at is =
    absurd (let no : None ≡ Some i = at in cc)
placed_has ifaces apart es k (x ∷ more) stand are zero i at is =
    let at_k = here ifaces k x more stand
    in let same : x ≡ i = cc
    in let number : k ≡ k + 0 = omega arith
    in let found : IsIn (spot_of x, k) (stepped es k x x.defined) =
    has_step es k x x.defined (ap (λ (y : ScopeIface). y.defined) same ∙ is)
    in placed_keeps ifaces apart (spot_of i, k + 0) (stepped es k x x.defined) (k + 1) more
    (later ifaces k x more stand) (entries_step ifaces es k x at_k are x.defined refl)
    (subst (λ (e : Entry). IsIn e (stepped es k x x.defined)) (λ j. (spot_of (same j), number j))
    found)
placed_has ifaces apart es k (x ∷ more) stand are (suc j) i at is =
    let same : k + 1 + j ≡ k + suc j = omega arith
    in subst (λ (n : ℕ). IsIn (spot_of i, n) (placed es k (x ∷ more))) same
    (placed_has ifaces apart (stepped es k x x.defined) (k + 1) more (later ifaces k x more stand)
    (entries_step ifaces es k x (here ifaces k x more stand) are x.defined refl) j i at is)

-- ---- the entries of a scope

from_start : (ifaces : List ScopeIface) → StandFrom ifaces 0 ifaces
from_start ifaces j i at = let same : 0 + j ≡ j = omega arith in ap (slice_get ifaces) same ∙ at

nothing_yet : (ifaces : List ScopeIface) → AreEntries ifaces []
unfolding Rises
nothing_yet ifaces = record { each = tt; rise = tt }

pub scope_entries : (ifaces : List ScopeIface) → AreEntries ifaces (placed [] 0 ifaces)
scope_entries ifaces = placed_entries ifaces [] 0 ifaces (from_start ifaces) (nothing_yet ifaces)

pub scope_has : (ifaces : List ScopeIface) → AreApart ifaces → (k : ℕ) (i : ScopeIface)
    → slice_get ifaces k ≡ Some i → IsTrue i.defined → IsIn (spot_of i, k) (placed [] 0 ifaces)
scope_has ifaces apart k i at is =
    let same : 0 + k ≡ k = omega arith
    in subst (λ (n : ℕ). IsIn (spot_of i, n) (placed [] 0 ifaces)) same
    (placed_has ifaces apart [] 0 ifaces (from_start ifaces) (nothing_yet ifaces) k i at is)
