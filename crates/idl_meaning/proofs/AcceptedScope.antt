-- Each interface of files without faults is accepted.
use Rattle.std.proofs.Common.{◌≡◌, ℕ, suc, ◌<◌, Bool, true, false, ◌==◌, inl, inr, List, [], ◌∷◌, ◌++◌, length, Option, Some, None, refl, sym, ap, arith, subst, if◌then◌else◌, unwrap_or}
use Rattle.std.specs.Prelude.{slice_set, is_some, codes}
use Rattle.std.proofs.lemmas.Bool.Decides.{nat_tests}
use Rattle.std.proofs.lemmas.Option.{slice_get_past}
use Rattle.idl_grammar.specs.declared.tree.Attr.{Attr}
use Rattle.idl_grammar.specs.declared.tree.ClosedFile.{ClosedFile}
use Rattle.idl_grammar.specs.declared.tree.Interface.{Interface}
use Rattle.idl_grammar.specs.declared.tree.Item.{Item}
use Rattle.idl_grammar.specs.declared.tree.ItemBody.{ItemBody}
use Rattle.idl_grammar.specs.declared.tree.ItemBody.TheVariants as item
use Rattle.idl_meaning.specs.declared.scope.Meant.{Meant}
use Rattle.idl_meaning.specs.declared.scope.Meant.TheVariants as meant
use Rattle.idl_meaning.specs.declared.scope.ScopeIface.{ScopeIface}
use Rattle.idl_meaning.specs.Attributes.{has, is_plain, uuid_of}
use Rattle.idl_meaning.specs.Meaning.{Names, Bound, Typed, Forward, Defined, learns, meaning_of, sense, native_by, native_meaning, nsid_meaning, said_by}
use Rattle.idl_meaning.specs.Scopes.{Known, nothing_known, number_or_next, defined_number, parent_bound, next_number, inside, stands_for, bare_iface, iface_made, members_made, placed, after_interface, after_forward, after_new, redeclares, after, after_items, after_files}
use Rattle.idl_meaning.specs.Faults.{Declaration, codes_at, faults_with, inner_faults, item_faults, file_faults, faults_from}
use Rattle.idl_meaning.specs.Accepted.{IsMeant, IsAcceptedIface}
use Rattle.idl_meaning.proofs.Identifiers.{iid-or-zero, uuid-long}
use Rattle.idl_meaning.proofs.Methods.{stands-meant}
use Rattle.idl_meaning.proofs.Members.{nil_left, nil_right, members-accepted, members-differ, members-hide}
use Rattle.idl_meaning.proofs.Good.{Placed, placed-last, placed-set, IsDefinedAt, IsGood, good-typed, defined-kept, meant-placed, good-placed}

-- ---- natives

-- what an option holds has such a meaning
abbrev IfMeant : ℕ → Option Meant → Type 0
IfMeant count None = Unit {0}
IfMeant count (Some m) = IsMeant count m

if-meant : (count : ℕ) (b : Bool) (m n : Meant) → IsMeant count m → IsMeant count n → IsMeant count (if b then m else n)
if-meant count true m n h k = h
if-meant count false m n h k = k

if-result : (count : ℕ) (b : Bool) (o p : Option Meant) → IfMeant count o → IfMeant count p → IfMeant count (if b then o else p)
if-result count true o p h k = h
if-result count false o p h k = k

or-meant : (count : ℕ) (o : Option Meant) (m : Meant) → IfMeant count o → IsMeant count m → IsMeant count (unwrap_or o m)
or-meant count None m h k = k
or-meant count (Some n) m h k = h

said-meant : (count : ℕ) (nsid : Meant) (a : Attr) → IsMeant count nsid → IfMeant count (said_by nsid a)
said-meant count nsid a h =
    if-result count (is_plain (codes "nsid") a) (Some nsid) _ h
    (if-result count (is_plain (codes "domstring") a) (Some (meant.StringClass 15)) _ refl
    (if-result count (is_plain (codes "utf8string") a) (Some (meant.StringClass 23)) _ refl
    (if-result count (is_plain (codes "cstring") a) (Some (meant.StringClass 24)) _ refl
    (if-result count (is_plain (codes "astring") a) (Some (meant.StringClass 25)) _ refl
    (if-result count (is_plain (codes "jsval") a) (Some meant.JsVal) None tt tt)))))

by-meant : (count : ℕ) (plain nsid : Meant) (attrs : List Attr) → IsMeant count plain → IsMeant count nsid → IsMeant count (native_by plain nsid attrs)
by-meant count plain nsid [] h k = h
by-meant count plain nsid (a ∷ more) h k = or-meant count (said_by nsid a) (native_by plain nsid more) (said-meant count nsid a k) (by-meant count plain nsid more h k)

native-meant : (count : ℕ) (name : List ℕ) (attrs : List Attr) → IsMeant count (native_meaning name attrs)
native-meant count name attrs =
    by-meant count (meant.Native name) (nsid_meaning name attrs) attrs tt
    (if-meant count (has (codes "ref") attrs) meant.NsidRef _ tt (if-meant count (has (codes "ptr") attrs) meant.NsidPtr (meant.Native name) tt tt))

-- ---- where a declared interface goes

-- a name that is bound to no type is bound to an interface that is there, or to nothing
abbrev Goes : Names → List ScopeIface → List ℕ → ScopeIface → Type 0
Goes names ifaces name x =
    Placed ifaces (placed ifaces (number_or_next (names name) (length ifaces)) x) (number_or_next (names name) (length ifaces)) x

placed-at-end : (ifaces : List ScopeIface) (x : ScopeIface) → placed ifaces (length ifaces) x ≡ ifaces ++ x ∷ []
placed-at-end ifaces x = ap (λ (b : Bool). if b then ifaces ++ x ∷ [] else slice_set ifaces (length ifaces) x) (let h : (length ifaces == length ifaces) ≡ true = grind (arith, nat_tests) in h)

placed-within : (ifaces : List ScopeIface) (n : ℕ) (x : ScopeIface) → n < length ifaces → placed ifaces n x ≡ slice_set ifaces n x
placed-within ifaces n x low = ap (λ (b : Bool). if b then ifaces ++ x ∷ [] else slice_set ifaces n x) (let h : (n == length ifaces) ≡ false = grind (arith, nat_tests) in h)

at-end : (ifaces : List ScopeIface) (x : ScopeIface) → Placed ifaces (placed ifaces (length ifaces) x) (length ifaces) x
at-end ifaces x = subst (λ (new : List ScopeIface). Placed ifaces new (length ifaces) x) (sym (placed-at-end ifaces x)) (placed-last ifaces x)

at-number : (ifaces : List ScopeIface) (n : ℕ) (x : ScopeIface) → n < length ifaces → Placed ifaces (placed ifaces n x) n x
at-number ifaces n x low = subst (λ (new : List ScopeIface). Placed ifaces new n x) (sym (placed-within ifaces n x low)) (placed-set ifaces n x low)

pub goes-by : (ifaces : List ScopeIface) (x : ScopeIface) (o : Option Bound) → ((b : Bound) → o ≡ Some b → IsMeant (length ifaces) (meaning_of b))
    → Placed ifaces (placed ifaces (number_or_next o (length ifaces)) x) (number_or_next o (length ifaces)) x
goes-by ifaces x None h = at-end ifaces x
goes-by ifaces x (Some (Typed m)) h = at-end ifaces x
goes-by ifaces x (Some (Forward number)) h = at-number ifaces number x (h (Forward number) refl)
goes-by ifaces x (Some (Defined number rank)) h = at-number ifaces number x (h (Defined number rank) refl)

-- ---- a forward declaration

bare-accepted : (file decl : ℕ) (name : List ℕ) (ifaces : List ScopeIface) → IsAcceptedIface ifaces (bare_iface file decl name)
bare-accepted file decl name ifaces = record {
  identifier = refl;
  flags = record { scriptable = false; function = false; builtinclass = false; made = refl };
  members = λ k m e. absurd cc;
  members_differ = λ j k a b at there same. absurd cc;
  natives_hidden = λ h k m e. absurd cc;
  extends = λ p e. absurd cc;
  unidentified = λ h. refl;
  parentless = λ h. refl;
  memberless = λ h. refl;
}

abbrev pub IsGoodAt : Known → Type 0
IsGoodAt k = IsGood k.names k.ifaces

pub none-bound : {A : Type 0} (o : Option A) → is_some o ≡ false → o ≡ None
none-bound None e = refl
none-bound (Some x) e = absurd cc

pub forward-good : (file decl : ℕ) (k : Known) (name : List ℕ) → IsGoodAt k → IsGoodAt (after_forward file decl k name)
forward-good file decl k name good = go (is_some (k.names name)) refl where
  go : (b : Bool) → is_some (k.names name) ≡ b
      → IsGoodAt (if b then k else record k { names = learns k.names name (Some (Forward (length k.ifaces))); ifaces = k.ifaces ++ bare_iface file decl name ∷ [] })
  go true is = good
  go false is =
      let none = none-bound (k.names name) is in
      good-placed k.names k.ifaces (k.ifaces ++ bare_iface file decl name ∷ []) name (length k.ifaces) (Forward (length k.ifaces)) (bare_iface file decl name) good
      (placed-last k.ifaces (bare_iface file decl name))
      (sym (ap (λ (o : Option Bound). number_or_next o (length k.ifaces)) none)) refl refl refl
      (inl (slice_get_past k.ifaces (length k.ifaces) (omega arith))) (λ n rank e. absurd cc)
      (bare-accepted file decl name (k.ifaces ++ bare_iface file decl name ∷ []))

-- ---- the definition of an interface

-- the parent is defined
pub parent-there : (k : Known) (written : Option (List ℕ)) (p : ℕ) → IsGoodAt k → defined_number (parent_bound k.names written) ≡ Some p → IsDefinedAt k.ifaces p
parent-there k None p good e = absurd cc
parent-there k (Some name) p good e = go (k.names name) refl e where
  go : (o : Option Bound) → k.names name ≡ o → defined_number o ≡ Some p → IsDefinedAt k.ifaces p
  go None is h = absurd cc
  go (Some (Typed m)) is h = absurd cc
  go (Some (Forward number)) is h = absurd cc
  go (Some (Defined number rank)) is h =
      let same : number ≡ p = cc in
      subst (λ (n : ℕ). IsDefinedAt k.ifaces n) same (good.defined_there name number rank is)

interface-good : (file decl : ℕ) (k : Known) (i : Interface) → IsGoodAt k → inner_faults file decl k (item.Interface i) ≡ [] → IsGoodAt (after_interface file decl k i)
interface-good file decl k i good none =
    let number = next_number k i.name in
    let b = Defined number k.defined in
    let x = iface_made file decl i (defined_number (parent_bound k.names i.parent)) (members_made 1 (inside k i) i.members) in
    let new = placed k.ifaces number x in
    let goes : Placed k.ifaces new number x = goes-by k.ifaces x (k.names i.name) (good.meanings i.name) in
    let within = meant-placed k.names k.ifaces new i.name number b x good.meanings goes refl in
    good-placed k.names k.ifaces new i.name number b x good goes refl refl refl refl (inr refl) (λ n rank e. refl)
    (record {
      identifier = iid-or-zero (uuid_of i.attrs) (uuid-long i.attrs);
      flags = record {
        scriptable = has (codes "scriptable") i.attrs;
        function = has (codes "function") i.attrs;
        builtinclass = has (codes "builtinclass") i.attrs;
        made = refl;
      };
      members = members-accepted i.members (length new) file decl 1 (inside k i) within none;
      members_differ = members-differ i.members file decl 1 (inside k i) none;
      natives_hidden = members-hide i.members (length new) file decl 1 (inside k i) within none;
      extends = λ p e. defined-kept k.ifaces new number x goes (inr refl) p (parent-there k i.parent p good e);
      unidentified = λ h. absurd cc;
      parentless = λ h. absurd cc;
      memberless = λ h. absurd cc;
    })

-- ---- declarations, and files

new-good : (file decl : ℕ) (k : Known) (d : ItemBody) → IsGoodAt k → redeclares k.names d ≡ false → inner_faults file decl k d ≡ [] → IsGoodAt (after_new file decl k d)
new-good file decl k (item.Include name) good once none = good
new-good file decl k item.Code good once none = good
new-good file decl k (item.Typedef of name) good once none =
    good-typed k.names k.ifaces name (stands_for (sense k.names of)) good (none-bound (k.names name) once) (stands-meant (length k.ifaces) k.names good.meanings of)
new-good file decl k (item.Native attrs name text) good once none =
    good-typed k.names k.ifaces name (native_meaning name attrs) good (none-bound (k.names name) once) (native-meant (length k.ifaces) name attrs)
new-good file decl k (item.Forward name) good once none = forward-good file decl k name good
new-good file decl k (item.Interface i) good once none = interface-good file decl k i good none

pub item-good : (file decl : ℕ) (k : Known) (d : ItemBody) → IsGoodAt k → item_faults file decl k d ≡ [] → IsGoodAt (after file decl k d)
item-good file decl k d good none = go (redeclares k.names d) refl where
  go : (b : Bool) → redeclares k.names d ≡ b → IsGoodAt (if b then k else after_new file decl k d)
  go true is = good
  go false is = new-good file decl k d good is (nil_right (faults_with file decl 0 (codes_at (Declaration k d))) (inner_faults file decl k d) none)

pub items-good : (items : List Item) (file decl : ℕ) (k : Known) → IsGoodAt k → file_faults file decl k items ≡ [] → IsGoodAt (after_items file decl k items)
items-good [] file decl k good none = good
items-good (x ∷ items) file decl k good none =
    items-good items file (suc decl) (after file decl k x.body)
    (item-good file decl k x.body good (nil_left (item_faults file decl k x.body) (file_faults file (suc decl) (after file decl k x.body) items) none))
    (nil_right (item_faults file decl k x.body) (file_faults file (suc decl) (after file decl k x.body) items) none)

pub files-good : (files : List ClosedFile) (file : ℕ) (k : Known) → IsGoodAt k → faults_from file k files ≡ [] → IsGoodAt (after_files file k files)
files-good [] file k good none = good
files-good (f ∷ files) file k good none =
    files-good files (suc file) (after_items file 0 k f.file.items)
    (items-good f.file.items file 0 k good (nil_left (file_faults file 0 k f.file.items) (faults_from (suc file) (after_items file 0 k f.file.items) files) none))
    (nil_right (file_faults file 0 k f.file.items) (faults_from (suc file) (after_items file 0 k f.file.items) files) none)

pub nothing-good : IsGoodAt nothing_known
nothing-good = record {
  meanings = λ name b e. absurd cc;
  each = λ k i e. absurd cc;
  numbered = λ k i e. absurd cc;
  defined_there = λ name number rank e. absurd cc;
}
