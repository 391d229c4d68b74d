-- No two interfaces that are defined have one identifier.
use Rattle.std.proofs.Common.{◌≡◌, ℕ, suc, Bool, true, false, ◌⊎◌, inl, inr, List, [], ◌∷◌, ◌++◌, length, Option, Some, None, refl, sym, ap, ◌∙◌, subst, if◌then◌else◌, option_and_then}
use Rattle.std.specs.Prelude.{slice_get, is_some, is_none, IsTrue}
use Rattle.idl_grammar.specs.declared.tree.ClosedFile.{ClosedFile}
use Rattle.idl_grammar.specs.declared.tree.Interface.{Interface}
use Rattle.idl_grammar.specs.declared.tree.Item.{Item}
use Rattle.idl_grammar.specs.declared.tree.ItemBody.{ItemBody}
use Rattle.idl_grammar.specs.declared.tree.ItemBody.TheVariants as item
use Rattle.idl_meaning.specs.declared.scope.ScopeIface.{ScopeIface}
use Rattle.idl_meaning.specs.Attributes.{uuid_of}
use Rattle.idl_meaning.specs.Meaning.{learns, Forward}
use Rattle.idl_meaning.specs.Scopes.{Known, nothing_known, next_number, parent_bound, defined_number, inside, members_made, iface_made, iid_or_zero, bare_iface, placed, used_iid, after_interface, after_forward, after_new, redeclares, after, after_items, after_files}
use Rattle.idl_meaning.specs.Faults.{Declaration, conditions, codes_at, faults_with, inner_faults, item_faults, file_faults, faults_from, faults_of}
use Rattle.idl_meaning.specs.Accepted.{AreIdentifiedOnce}
use Rattle.idl_meaning.proofs.Methods.{fails}
use Rattle.idl_meaning.proofs.Members.{nil_left, nil_right, no_codes}
use Rattle.idl_meaning.proofs.Good.{Placed, placed-last, learned, learned-here}
use Rattle.idl_meaning.proofs.AcceptedScope.{IsGoodAt, goes-by, item-good, items-good, nothing-good}

-- each interface that is defined has used its identifier, and no two have one
pub record IsIdentified (iids : List ℕ → Option (Unit {0})) (ifaces : List ScopeIface) : Type 0 where
  pub each : (k : ℕ) (i : ScopeIface) → slice_get ifaces k ≡ Some i → IsTrue i.defined → is_some (iids i.iid) ≡ true
  pub apart : AreIdentifiedOnce ifaces

abbrev IsIdentifiedAt : Known → Type 0
IsIdentifiedAt k = IsIdentified k.iids k.ifaces

-- an interface that is only named
bare-identified : (iids : List ℕ → Option (Unit {0})) (old new : List ScopeIface) (number : ℕ) (x : ScopeIface) → IsIdentified iids old → Placed old new number x
    → x.defined ≡ false → IsIdentified iids new
bare-identified iids old new number x good placed bare = record {
  each = λ k i e defined. good.each k i (was k i (placed.from k i e) defined) defined;
  apart = λ j k a b at there one two same. good.apart j k a b (was j a (placed.from j a at) one) (was k b (placed.from k b there) two) one two same;
} where
  was : (k : ℕ) (i : ScopeIface) → ((k ≡ number) × (x ≡ i)) ⊎ (slice_get old k ≡ Some i) → IsTrue i.defined → slice_get old k ≡ Some i
  was k i (inl h) defined = absurd (let not_so : i.defined ≡ false = subst (λ (y : ScopeIface). y.defined ≡ false) h.1 bare in clash i.defined not_so defined) where
    clash : (b : Bool) → b ≡ false → b ≡ true → ⊥
    clash true e f = absurd cc
    clash false e f = absurd cc
  was k i (inr h) defined = h

-- an interface that is defined, whose identifier was not used
new-identified : (iids : List ℕ → Option (Unit {0})) (old new : List ScopeIface) (number : ℕ) (x : ScopeIface) (iid : List ℕ) → IsIdentified iids old → Placed old new number x
    → x.iid ≡ iid → is_some (iids iid) ≡ false → IsIdentified (learns iids iid (Some tt)) new
new-identified iids old new number x iid good placed own fresh = record {
  each = λ k i e defined. used k i (placed.from k i e) defined;
  apart = λ j k a b at there one two same. differ j k a b (placed.from j a at) (placed.from k b there) one two same;
} where
  used : (k : ℕ) (i : ScopeIface) → ((k ≡ number) × (x ≡ i)) ⊎ (slice_get old k ≡ Some i) → IsTrue i.defined → is_some (learns iids iid (Some tt) i.iid) ≡ true
  used k i (inl h) defined =
      let mine : i.iid ≡ iid = sym (ap (λ (y : ScopeIface). y.iid) h.1) ∙ own in
      ap (λ (n : List ℕ). is_some (learns iids iid (Some tt) n)) mine ∙ ap is_some (learned-here iids iid (Some tt))
  used k i (inr h) defined = learned (λ o. is_some o ≡ true) iids iid (Some tt) i.iid (λ here. refl) (good.each k i h defined)

  clash : (b : Bool) → b ≡ false → b ≡ true → ⊥
  clash true e f = absurd cc
  clash false e f = absurd cc

  taken : (k : ℕ) (i : ScopeIface) → slice_get old k ≡ Some i → IsTrue i.defined → i.iid ≡ iid → ⊥
  taken k i h defined same = clash (is_some (iids iid)) fresh (subst (λ (n : List ℕ). is_some (iids n) ≡ true) same (good.each k i h defined))

  differ : (j k : ℕ) (a b : ScopeIface) → ((j ≡ number) × (x ≡ a)) ⊎ (slice_get old j ≡ Some a) → ((k ≡ number) × (x ≡ b)) ⊎ (slice_get old k ≡ Some b)
      → IsTrue a.defined → IsTrue b.defined → a.iid ≡ b.iid → j ≡ k
  differ j k a b (inl h) (inl g) one two same = h.0 ∙ sym g.0
  differ j k a b (inl h) (inr g) one two same = absurd (taken k b g two (sym same ∙ sym (ap (λ (y : ScopeIface). y.iid) h.1) ∙ own))
  differ j k a b (inr h) (inl g) one two same = absurd (taken j a h one (same ∙ sym (ap (λ (y : ScopeIface). y.iid) g.1) ∙ own))
  differ j k a b (inr h) (inr g) one two same = good.apart j k a b h g one two same

-- ---- declarations

forward-identified : (file decl : ℕ) (k : Known) (name : List ℕ) → IsIdentifiedAt k → IsIdentifiedAt (after_forward file decl k name)
forward-identified file decl k name good = go (is_some (k.names name)) where
  go : (b : Bool)
      → IsIdentifiedAt (if b then k else record k { names = learns k.names name (Some (Forward (length k.ifaces))); ifaces = k.ifaces ++ bare_iface file decl name ∷ [] })
  go true = good
  go false = bare-identified k.iids k.ifaces (k.ifaces ++ bare_iface file decl name ∷ []) (length k.ifaces) (bare_iface file decl name) good (placed-last k.ifaces (bare_iface file decl name)) refl

interface-identified : (file decl : ℕ) (k : Known) (i : Interface) → IsGoodAt k → IsIdentifiedAt k → codes_at (Declaration k (item.Interface i)) ≡ [] → IsIdentifiedAt (after_interface file decl k i)
interface-identified file decl k i good identified none =
    let silent = fails conditions 1 (Declaration k (item.Interface i)) none in
    go (uuid_of i.attrs) (silent 3) (silent 4) where
      go : (o : Option (List ℕ)) → is_none o ≡ false → is_some (option_and_then k.iids o) ≡ false
          → IsIdentified (used_iid k.iids o)
          (placed k.ifaces (next_number k i.name) (record (iface_made file decl i (defined_number (parent_bound k.names i.parent)) (members_made 1 (inside k i) i.members)) { iid = iid_or_zero o }))
      go None four five = absurd cc
      go (Some iid) four five =
          new-identified k.iids k.ifaces _ (next_number k i.name) _ iid identified (goes-by k.ifaces _ (k.names i.name) (good.meanings i.name)) refl five

new-one : (file decl : ℕ) (k : Known) (d : ItemBody) → IsGoodAt k → IsIdentifiedAt k → codes_at (Declaration k d) ≡ [] → IsIdentifiedAt (after_new file decl k d)
new-one file decl k (item.Include name) good identified none = identified
new-one file decl k item.Code good identified none = identified
new-one file decl k (item.Typedef of name) good identified none = record { each = identified.each; apart = identified.apart }
new-one file decl k (item.Native attrs name text) good identified none = record { each = identified.each; apart = identified.apart }
new-one file decl k (item.Forward name) good identified none = forward-identified file decl k name identified
new-one file decl k (item.Interface i) good identified none = interface-identified file decl k i good identified none

item-identified : (file decl : ℕ) (k : Known) (d : ItemBody) → IsGoodAt k → IsIdentifiedAt k → item_faults file decl k d ≡ [] → IsIdentifiedAt (after file decl k d)
item-identified file decl k d good identified none = go (redeclares k.names d) where
  go : (b : Bool) → IsIdentifiedAt (if b then k else after_new file decl k d)
  go true = identified
  go false = new-one file decl k d good identified (no_codes file decl 0 (codes_at (Declaration k d)) (nil_left (faults_with file decl 0 (codes_at (Declaration k d))) (inner_faults file decl k d) none))

items-identified : (items : List Item) (file decl : ℕ) (k : Known) → IsGoodAt k → IsIdentifiedAt k → file_faults file decl k items ≡ [] → IsIdentifiedAt (after_items file decl k items)
items-identified [] file decl k good identified none = identified
items-identified (x ∷ items) file decl k good identified none =
    let here = nil_left (item_faults file decl k x.body) (file_faults file (suc decl) (after file decl k x.body) items) none in
    items-identified items file (suc decl) (after file decl k x.body) (item-good file decl k x.body good here) (item-identified file decl k x.body good identified here)
    (nil_right (item_faults file decl k x.body) (file_faults file (suc decl) (after file decl k x.body) items) none)

files-identified : (files : List ClosedFile) (file : ℕ) (k : Known) → IsGoodAt k → IsIdentifiedAt k → faults_from file k files ≡ [] → IsIdentifiedAt (after_files file k files)
files-identified [] file k good identified none = identified
files-identified (f ∷ files) file k good identified none =
    let here = nil_left (file_faults file 0 k f.file.items) (faults_from (suc file) (after_items file 0 k f.file.items) files) none in
    files-identified files (suc file) (after_items file 0 k f.file.items) (items-good f.file.items file 0 k good here) (items-identified f.file.items file 0 k good identified here)
    (nil_right (file_faults file 0 k f.file.items) (faults_from (suc file) (after_items file 0 k f.file.items) files) none)

nothing-identified : IsIdentifiedAt nothing_known
nothing-identified = record { each = λ k i e defined. absurd cc; apart = λ j k a b at there one two same. absurd cc }

pub identified-once : (files : List ClosedFile) → faults_of files ≡ [] → AreIdentifiedOnce (after_files 0 nothing_known files).ifaces
identified-once files none = (files-identified files 0 nothing_known nothing-good nothing-identified none).apart
