-- No two interfaces are defined at one place, each parent is defined before its child, and none is above itself.
use Rattle.std.proofs.Common.{◌≡◌, ℕ, suc, ◌<◌, Bool, true, false, ◌⊎◌, inl, inr, List, [], ◌∷◌, ◌++◌, length, Option, Some, None, refl, sym, ap, ◌∙◌, arith, subst, if◌then◌else◌}
use Rattle.std.specs.Prelude.{slice_get, is_some, IsSomeAnd, IsTrue, IsFalse}
use Rattle.std.proofs.lemmas.Option.{slice_get_within}
use Rattle.idl_grammar.specs.declared.tree.ClosedFile.{ClosedFile}
use Rattle.idl_grammar.specs.declared.tree.Interface.{Interface}
use Rattle.idl_grammar.specs.declared.tree.Item.{Item}
use Rattle.idl_grammar.specs.declared.tree.ItemBody.{ItemBody}
use Rattle.idl_grammar.specs.declared.tree.ItemBody.TheVariants as item
use Rattle.idl_meaning.specs.declared.scope.Meant.{Meant}
use Rattle.idl_meaning.specs.declared.scope.ScopeIface.{ScopeIface}
use Rattle.idl_meaning.specs.Meaning.{Names, Bound, Typed, Forward, Defined, learns, native_meaning, sense}
use Rattle.idl_meaning.specs.Scopes.{Known, nothing_known, number_or_next, next_number, parent_bound, defined_number, stands_for, inside, members_made, iface_made, bare_iface, placed, is_taken, after_interface, after_forward, after_new, redeclares, after, after_items, after_files}
use Rattle.idl_meaning.specs.Faults.{item_faults, file_faults, faults_from, faults_of}
use Rattle.idl_meaning.specs.Accepted.{AreApart, AreParentsFirst, IsAbove, parent, ancestor, IsDefinedBefore, IsEarlier}
use Rattle.idl_meaning.proofs.Members.{nil_left, nil_right}
use Rattle.idl_meaning.proofs.Good.{Placed, placed-last, learned, learned-other, some-and, and-some, IsDefinedAt}
use Rattle.idl_meaning.proofs.AcceptedScope.{IsGoodAt, goes-by, parent-there, item-good, items-good, nothing-good}

-- ---- what is kept from declaration to declaration

-- an interface has this name, and is not defined
record IsBare (name : List ℕ) (i : ScopeIface) : Type 0 where
  pub named : i.name ≡ name
  pub bare : IsFalse i.defined

-- an interface stands before this place
abbrev IsBefore : ℕ → ℕ → ScopeIface → Type 0
IsBefore file decl i = (i.file < file) ⊎ ((i.file ≡ file) × (i.decl < decl))

-- A name that was only named forward is that of an interface that is not defined; each that is
-- defined stands before this place, and no other there; and each parent before its child.
record IsSpotted (file decl : ℕ) (names : Names) (ifaces : List ScopeIface) : Type 0 where
  pub forwards : (name : List ℕ) (n : ℕ) → names name ≡ Some (Forward n) → IsSomeAnd (slice_get ifaces n) (IsBare name)
  pub before : (k : ℕ) (i : ScopeIface) → slice_get ifaces k ≡ Some i → IsTrue i.defined → IsBefore file decl i
  pub apart : AreApart ifaces
  pub parents_first : AreParentsFirst ifaces

abbrev IsSpottedAt : ℕ → ℕ → Known → Type 0
IsSpottedAt file decl k = IsSpotted file decl k.names k.ifaces

-- at a later place
moved : (f d file decl : ℕ) (names : Names) (ifaces : List ScopeIface) → ((i : ScopeIface) → IsBefore f d i → IsBefore file decl i) → IsSpotted f d names ifaces
    → IsSpotted file decl names ifaces
moved f d file decl names ifaces later s =
    record { forwards = s.forwards; before = λ k i at is. later i (s.before k i at is); apart = s.apart; parents_first = s.parents_first }

next-decl : (file decl : ℕ) (i : ScopeIface) → IsBefore file decl i → IsBefore file (suc decl) i
next-decl file decl i (inl h) = inl h
next-decl file decl i (inr h) = inr (h.0, let below = h.1 in omega (arith, below))

next-file : (file decl : ℕ) (i : ScopeIface) → IsBefore file decl i → IsBefore (suc file) 0 i
next-file file decl i (inl h) = inl (omega (arith, h))
next-file file decl i (inr h) = inl (let same = h.0 in omega (arith, same))

-- ---- one interface more

clash : (b : Bool) → b ≡ false → b ≡ true → ⊥
clash true e f = absurd cc
clash false e f = absurd cc

there-or-here : (file decl : ℕ) (i : ScopeIface) → IsBefore file decl i → i.file ≡ file → i.decl ≡ decl → ⊥
there-or-here file decl i (inl h) f d = omega (arith, h, f)
there-or-here file decl i (inr h) f d = let below = h.1 in omega (arith, below, d)

module _ (file decl : ℕ) (names : Names) (old new : List ScopeIface) (name : List ℕ) (number : ℕ) (b : Bound) (x : ScopeIface) (s : IsSpotted file decl names old)
    (goes : Placed old new number x) (vacant : (q : ScopeIface) → slice_get old number ≡ Some q → IsBare name q) (named : x.name ≡ name)
    (binds : (n : ℕ) → b ≡ Forward n → (n ≡ number) × IsFalse x.defined) (spot : (x.file ≡ file) × (x.decl ≡ decl))
    (extends : (p : ℕ) → x.parent ≡ Some p → IsDefinedAt old p) where
  -- what is defined stays where it is
  kept-defined : (P : ScopeIface → Type 0) (p : ℕ) (q : ScopeIface) → slice_get old p ≡ Some q → IsTrue q.defined → P q → IsSomeAnd (slice_get new p) P
  kept-defined P p q at is h = go (goes.kept p q at) where
    go : (p ≡ number) ⊎ (slice_get new p ≡ Some q) → IsSomeAnd (slice_get new p) P
    go (inl same) = absurd (clash q.defined (vacant q (subst (λ (n : ℕ). slice_get old n ≡ Some q) same at)).bare is)
    go (inr there) = and-some P (slice_get new p) q there h

  bare-kept : (n : List ℕ) (at : ℕ) → (name ≡ n → ⊥) → names n ≡ Some (Forward at) → IsSomeAnd (slice_get new at) (IsBare n)
  bare-kept n at other e =
      let r = some-and (IsBare n) (slice_get old at) (s.forwards n at e) in
      go r.0 r.1 r.2 (goes.kept at r.0 r.1) where
        go : (q : ScopeIface) → slice_get old at ≡ Some q → IsBare n q → (at ≡ number) ⊎ (slice_get new at ≡ Some q) → IsSomeAnd (slice_get new at) (IsBare n)
        go q is h (inl same) = absurd (other (sym (vacant q (subst (λ (m : ℕ). slice_get old m ≡ Some q) same is)).named ∙ h.named))
        go q is h (inr there) = and-some (IsBare n) (slice_get new at) q there h

  bare-here : (n : List ℕ) (at : ℕ) → name ≡ n → b ≡ Forward at → IsSomeAnd (slice_get new at) (IsBare n)
  bare-here n at here e =
      let h = binds at e in
      subst (λ (m : ℕ). IsSomeAnd (slice_get new m) (IsBare n)) (sym h.0)
      (and-some (IsBare n) (slice_get new number) x goes.here (record { named = named ∙ here; bare = h.1 }))

  before-next : (k : ℕ) (i : ScopeIface) → ((k ≡ number) × (x ≡ i)) ⊎ (slice_get old k ≡ Some i) → IsTrue i.defined → IsBefore file (suc decl) i
  before-next k i (inl h) is = subst (λ (y : ScopeIface). IsBefore file (suc decl) y) h.1 (inr (spot.0, let d = spot.1 in omega (arith, d)))
  before-next k i (inr h) is = next-decl file decl i (s.before k i h is)

  here-alone : (k : ℕ) (a i : ScopeIface) → x ≡ a → slice_get old k ≡ Some i → IsTrue i.defined → a.file ≡ i.file → a.decl ≡ i.decl → ⊥
  here-alone k a i same at is f d =
      there-or-here file decl i (s.before k i at is)
      (sym f ∙ sym (ap (λ (y : ScopeIface). y.file) same) ∙ spot.0) (sym d ∙ sym (ap (λ (y : ScopeIface). y.decl) same) ∙ spot.1)

  apart-next : (j k : ℕ) (a i : ScopeIface) → ((j ≡ number) × (x ≡ a)) ⊎ (slice_get old j ≡ Some a) → ((k ≡ number) × (x ≡ i)) ⊎ (slice_get old k ≡ Some i)
      → IsTrue a.defined → IsTrue i.defined → a.file ≡ i.file → a.decl ≡ i.decl → j ≡ k
  apart-next j k a i (inl h) (inl g) one two f d = h.0 ∙ sym g.0
  apart-next j k a i (inl h) (inr g) one two f d = absurd (here-alone k a i h.1 g two f d)
  apart-next j k a i (inr h) (inl g) one two f d = absurd (here-alone j i a g.1 h one (sym f) (sym d))
  apart-next j k a i (inr h) (inr g) one two f d = s.apart j k a i h g one two f d

  parent-of-new : (p : ℕ) → x.parent ≡ Some p → IsSomeAnd (slice_get new p) (IsDefinedBefore x)
  parent-of-new p is =
      let r = some-and (λ q. IsTrue q.defined) (slice_get old p) (extends p is) in
      kept-defined (IsDefinedBefore x) p r.0 r.1 r.2 (record { marked = r.2; earlier = go r.0 (s.before p r.0 r.1 r.2) }) where
        go : (q : ScopeIface) → IsBefore file decl q → IsEarlier q x
        go q (inl h) = inl (let f = spot.0 in omega (arith, h, f))
        go q (inr h) = inr (h.0 ∙ sym spot.0, let below = h.1 in let d = spot.1 in omega (arith, below, d))

  parents-next : (k p : ℕ) (i : ScopeIface) → ((k ≡ number) × (x ≡ i)) ⊎ (slice_get old k ≡ Some i) → i.parent ≡ Some p → IsSomeAnd (slice_get new p) (IsDefinedBefore i)
  parents-next k p i (inl h) is =
      subst (λ (y : ScopeIface). IsSomeAnd (slice_get new p) (IsDefinedBefore y)) h.1 (parent-of-new p (subst (λ (y : ScopeIface). y.parent ≡ Some p) (sym h.1) is))
  parents-next k p i (inr h) is =
      let r = some-and (IsDefinedBefore i) (slice_get old p) (s.parents_first k p i h is) in
      kept-defined (IsDefinedBefore i) p r.0 r.1 r.2.marked r.2

  spotted-placed : IsSpotted file (suc decl) (learns names name (Some b)) new
  spotted-placed = record {
    forwards = λ n at.
        learned-other (λ o. o ≡ Some (Forward at) → IsSomeAnd (slice_get new at) (IsBare n)) names name (Some b) n
        (λ here e. bare-here n at here (let same : b ≡ Forward at = cc in same))
        (λ other e. bare-kept n at other e);
    before = λ k i at is. before-next k i (goes.from k i at) is;
    apart = λ j k a i at there one two f d. apart-next j k a i (goes.from j a at) (goes.from k i there) one two f d;
    parents_first = λ k p i at is. parents-next k p i (goes.from k i at) is;
  }

-- ---- declarations

spotted-typed : (file decl : ℕ) (k : Known) (name : List ℕ) (m : Meant) → IsSpottedAt file decl k → IsSpotted file (suc decl) (learns k.names name (Some (Typed m))) k.ifaces
spotted-typed file decl k name m s = record {
  forwards = λ n at.
      learned (λ o. o ≡ Some (Forward at) → IsSomeAnd (slice_get k.ifaces at) (IsBare n)) k.names name (Some (Typed m)) n
      (λ here e. absurd cc) (s.forwards n at);
  before = λ j i at is. next-decl file decl i (s.before j i at is);
  apart = s.apart;
  parents_first = s.parents_first;
}

forward-spotted : (file decl : ℕ) (k : Known) (name : List ℕ) → IsSpottedAt file decl k → IsSpottedAt file (suc decl) (after_forward file decl k name)
forward-spotted file decl k name s = go (is_some (k.names name)) where
  go : (b : Bool)
      → IsSpottedAt file (suc decl) (if b then k else record k { names = learns k.names name (Some (Forward (length k.ifaces))); ifaces = k.ifaces ++ bare_iface file decl name ∷ [] })
  go true = moved file decl file (suc decl) k.names k.ifaces (next-decl file decl) s
  go false =
      spotted-placed file decl k.names k.ifaces (k.ifaces ++ bare_iface file decl name ∷ []) name (length k.ifaces) (Forward (length k.ifaces)) (bare_iface file decl name) s
      (placed-last k.ifaces (bare_iface file decl name))
      (λ q at. absurd (let within = slice_get_within k.ifaces (length k.ifaces) q at in omega (arith, within)))
      refl (λ n e. ((let same : length k.ifaces ≡ n = cc in sym same), refl)) (refl, refl) (λ p e. absurd cc)

-- where a name that is defined now goes, stood nothing that was defined
vacant-at : (file decl : ℕ) (k : Known) (name : List ℕ) → IsSpottedAt file decl k → is_taken (k.names name) ≡ false → (q : ScopeIface)
    → slice_get k.ifaces (next_number k name) ≡ Some q → IsBare name q
vacant-at file decl k name s free q = go (k.names name) refl free where
  go : (o : Option Bound) → k.names name ≡ o → is_taken o ≡ false → slice_get k.ifaces (number_or_next o (length k.ifaces)) ≡ Some q → IsBare name q
  go None is h at = absurd (let within = slice_get_within k.ifaces (length k.ifaces) q at in omega (arith, within))
  go (Some (Typed m)) is h at = absurd cc
  go (Some (Defined number rank)) is h at = absurd cc
  go (Some (Forward number)) is h at =
      let r = some-and (IsBare name) (slice_get k.ifaces number) (s.forwards name number is) in
      let same : r.0 ≡ q = let two : Some r.0 ≡ Some q = sym r.1 ∙ at in cc in
      subst (λ (y : ScopeIface). IsBare name y) same r.2

interface-spotted : (file decl : ℕ) (k : Known) (i : Interface) → IsGoodAt k → IsSpottedAt file decl k → is_taken (k.names i.name) ≡ false
    → IsSpottedAt file (suc decl) (after_interface file decl k i)
interface-spotted file decl k i good s free =
    let x = iface_made file decl i (defined_number (parent_bound k.names i.parent)) (members_made 1 (inside k i) i.members) in
    spotted-placed file decl k.names k.ifaces (placed k.ifaces (next_number k i.name) x) i.name (next_number k i.name) (Defined (next_number k i.name) k.defined) x s
    (goes-by k.ifaces x (k.names i.name) (good.meanings i.name)) (vacant-at file decl k i.name s free) refl (λ n e. absurd cc) (refl, refl)
    (λ p e. parent-there k i.parent p good e)

new-spotted : (file decl : ℕ) (k : Known) (d : ItemBody) → IsGoodAt k → IsSpottedAt file decl k → redeclares k.names d ≡ false → IsSpottedAt file (suc decl) (after_new file decl k d)
new-spotted file decl k (item.Include name) good s once = moved file decl file (suc decl) k.names k.ifaces (next-decl file decl) s
new-spotted file decl k item.Code good s once = moved file decl file (suc decl) k.names k.ifaces (next-decl file decl) s
new-spotted file decl k (item.Typedef of name) good s once = spotted-typed file decl k name (stands_for (sense k.names of)) s
new-spotted file decl k (item.Native attrs name text) good s once = spotted-typed file decl k name (native_meaning name attrs) s
new-spotted file decl k (item.Forward name) good s once = forward-spotted file decl k name s
new-spotted file decl k (item.Interface i) good s once = interface-spotted file decl k i good s once

item-spotted : (file decl : ℕ) (k : Known) (d : ItemBody) → IsGoodAt k → IsSpottedAt file decl k → IsSpottedAt file (suc decl) (after file decl k d)
item-spotted file decl k d good s = go (redeclares k.names d) refl where
  go : (b : Bool) → redeclares k.names d ≡ b → IsSpottedAt file (suc decl) (if b then k else after_new file decl k d)
  go true is = moved file decl file (suc decl) k.names k.ifaces (next-decl file decl) s
  go false is = new-spotted file decl k d good s is

items-spotted : (items : List Item) (file decl : ℕ) (k : Known) → IsGoodAt k → IsSpottedAt file decl k → file_faults file decl k items ≡ []
    → (last : ℕ) × IsSpottedAt file last (after_items file decl k items)
items-spotted [] file decl k good s none = (decl, s)
items-spotted (x ∷ items) file decl k good s none =
    let here = nil_left (item_faults file decl k x.body) (file_faults file (suc decl) (after file decl k x.body) items) none in
    items-spotted items file (suc decl) (after file decl k x.body) (item-good file decl k x.body good here) (item-spotted file decl k x.body good s)
    (nil_right (item_faults file decl k x.body) (file_faults file (suc decl) (after file decl k x.body) items) none)

files-spotted : (files : List ClosedFile) (file : ℕ) (k : Known) → IsGoodAt k → IsSpottedAt file 0 k → faults_from file k files ≡ []
    → (last : ℕ) × IsSpottedAt last 0 (after_files file k files)
files-spotted [] file k good s none = (file, s)
files-spotted (f ∷ files) file k good s none =
    let known = after_items file 0 k f.file.items in
    let here = nil_left (file_faults file 0 k f.file.items) (faults_from (suc file) known files) none in
    let r = items-spotted f.file.items file 0 k good s here in
    files-spotted files (suc file) known (items-good f.file.items file 0 k good here) (moved file r.0 (suc file) 0 known.names known.ifaces (next-file file r.0) r.1)
    (nil_right (file_faults file 0 k f.file.items) (faults_from (suc file) known files) none)

nothing-spotted : IsSpottedAt 0 0 nothing_known
nothing-spotted = record {
  forwards = λ name n e. absurd cc;
  before = λ k i at is. absurd cc;
  apart = λ j k a b at there one two f d. absurd cc;
  parents_first = λ k p i at is. absurd cc;
}

-- ---- the scope

pub record ArePlaced (ifaces : List ScopeIface) : Type 0 where
  pub apart : AreApart ifaces
  pub parents_first : AreParentsFirst ifaces

pub scope-placed : (files : List ClosedFile) → faults_of files ≡ [] → ArePlaced (after_files 0 nothing_known files).ifaces
scope-placed files none =
    let r = files-spotted files 0 nothing_known nothing-good nothing-spotted none in
    record { apart = r.1.apart; parents_first = r.1.parents_first }

-- ---- no circle

earlier-than : (a b c : ScopeIface) → IsEarlier a b → IsEarlier b c → IsEarlier a c
earlier-than a b c (inl h) (inl g) = inl (omega (arith, h, g))
earlier-than a b c (inl h) (inr g) = inl (let same = g.0 in omega (arith, h, same))
earlier-than a b c (inr h) (inl g) = inl (let same = h.0 in omega (arith, same, g))
earlier-than a b c (inr h) (inr g) = inr (h.0 ∙ g.0, let one = h.1 in let two = g.1 in omega (arith, one, two))

not-before-itself : (i : ScopeIface) → IsEarlier i i → ⊥
not-before-itself i (inl h) = omega (arith, h)
not-before-itself i (inr h) = let below = h.1 in omega (arith, below)

same-there : (ifaces : List ScopeIface) (k : ℕ) (i j : ScopeIface) → slice_get ifaces k ≡ Some i → slice_get ifaces k ≡ Some j → i ≡ j
same-there ifaces k i j at there = let two : Some i ≡ Some j = sym at ∙ there in cc

module _ (ifaces : List ScopeIface) (first : AreParentsFirst ifaces) where
  has-child : (a k : ℕ) → IsAbove ifaces a k → (i : ScopeIface) × (slice_get ifaces k ≡ Some i)
  has-child a _ (parent k i at is) = (i, at)
  has-child a _ (ancestor k p i at is up) = (i, at)

  above-earlier : (a k : ℕ) → IsAbove ifaces a k → (i : ScopeIface) → slice_get ifaces k ≡ Some i
      → (q : ScopeIface) × (slice_get ifaces a ≡ Some q) × IsEarlier q i
  above-earlier a _ (parent k j at is) i there =
      let r = some-and (IsDefinedBefore j) (slice_get ifaces a) (first k a j at is) in
      (r.0, r.1, subst (λ (y : ScopeIface). IsEarlier r.0 y) (same-there ifaces k j i at there) r.2.earlier)
  above-earlier a _ (ancestor k p j at is up) i there =
      let r = some-and (IsDefinedBefore j) (slice_get ifaces p) (first k p j at is) in
      let t = above-earlier a p up r.0 r.1 in
      (t.0, t.1, subst (λ (y : ScopeIface). IsEarlier t.0 y) (same-there ifaces k j i at there) (earlier-than t.0 r.0 j t.2 r.2.earlier))

  pub none-circles : (k : ℕ) → IsAbove ifaces k k → ⊥
  none-circles k h =
      let c = has-child k k h in
      let r = above-earlier k k h c.0 c.1 in
      not-before-itself c.0 (subst (λ (y : ScopeIface). IsEarlier y c.0) (same-there ifaces k r.0 c.0 r.1 c.1) r.2)
