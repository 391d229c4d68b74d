-- The list of faults is in ascending order, so its first is the least.
use Rattle.std.proofs.Common.{◌≡◌, ℕ, suc, ◌<◌, Bool, true, false, ◌⊎◌, inl, inr, List, [], ◌∷◌, Some, sym, ◌∙◌, arith, subst}
use Rattle.idl_grammar.specs.declared.tree.ClosedFile.{ClosedFile}
use Rattle.idl_grammar.specs.declared.tree.Item.{Item}
use Rattle.idl_grammar.specs.declared.tree.ItemBody.{ItemBody}
use Rattle.idl_grammar.specs.declared.tree.ItemBody.TheVariants as item
use Rattle.idl_grammar.specs.declared.tree.Member.{Member}
use Rattle.idl_meaning.specs.declared.idl_error.IdlError.{IdlError}
use Rattle.idl_meaning.specs.declared.idl_error.IdlError.TheVariants as error
use Rattle.idl_meaning.specs.Scopes.{Known, Inside, nothing_known, inside, inside_after, after, after_items}
use Rattle.idl_meaning.specs.Faults.{Place, Declaration, Within, conditions, when, numbered, codes_at, Fault, faults_with, member_faults, inner_faults, item_faults, file_faults, faults_from, faults_of, first, IsFirst}
use Rattle.idl_meaning.specs.Order.{Among, Ascending, Before, HasNoFault, IsLeastFault}
use Rattle.idl_meaning.proofs.Among.{ascending_append, later-is}
use Rattle.idl_meaning.proofs.Membership.{codes-sound, with-sound, members-sound, item-sound, items-sound, files-sound, fault, exact}

-- ---- codes

when-ascending : (b : Bool) (code : ℕ) → Ascending (λ (m n : ℕ). m < n) (when b code)
when-ascending true code = (λ y h. absurd h, tt)
when-ascending false code = tt

when-is : (b : Bool) (code c : ℕ) → Among c (when b code) → c ≡ code
when-is true code c (inl e) = e
when-is true code c (inr h) = absurd h
when-is false code c h = absurd h

codes-ascending : (cs : List (Place → Bool)) (code : ℕ) (p : Place) → Ascending (λ (m n : ℕ). m < n) (numbered code cs p)
codes-ascending [] code p = tt
codes-ascending (t ∷ more) code p =
    ascending_append (λ (m n : ℕ). m < n) (when (t p) code) (numbered (suc code) more p)
    (λ x y h k.
    let here = when-is (t p) code x h in
    let there = codes-sound more (suc code) p y k in
    let far = later-is there.0 (suc code) in
    omega (arith, here, there.1, far))
    (when-ascending (t p) code) (codes-ascending more (suc code) p)

with-ascending : (file decl number : ℕ) (cs : List ℕ) → Ascending (λ (m n : ℕ). m < n) cs → Ascending Before (faults_with file decl number cs)
with-ascending file decl number [] h = tt
with-ascending file decl number (c ∷ more) h = (
  λ y k.
      let r = with-sound file decl number more y k in
      inr (sym r.0, inr (sym r.1, inr (sym r.2, h.0 y.code r.3))),
  with-ascending file decl number more h.1,
)

-- ---- members

members-ascending : (ms : List Member) (file decl number : ℕ) (at : Inside) → Ascending Before (member_faults file decl number at ms)
members-ascending [] file decl number at = tt
members-ascending (m ∷ ms) file decl number at =
    ascending_append Before (faults_with file decl number (codes_at (Within at m.body))) (member_faults file decl (suc number) (inside_after at m.body) ms)
    (λ x y h k.
    let here = with-sound file decl number (codes_at (Within at m.body)) x h in
    let there = members-sound ms file decl (suc number) (inside_after at m.body) y k in
    let far = later-is there.0 (suc number) in
    inr (here.0 ∙ sym there.1, inr (here.1 ∙ sym there.2, inl (let a = here.2 in let b = there.3 in omega (arith, a, b, far)))))
    (with-ascending file decl number (codes_at (Within at m.body)) (codes-ascending conditions 1 (Within at m.body)))
    (members-ascending ms file decl (suc number) (inside_after at m.body))

-- ---- declarations

inner-ascending : (file decl : ℕ) (k : Known) (d : ItemBody) → Ascending Before (inner_faults file decl k d)
inner-ascending file decl k (item.Interface i) = members-ascending i.members file decl 1 (inside k i)
inner-ascending file decl k (item.Include name) = tt
inner-ascending file decl k item.Code = tt
inner-ascending file decl k (item.Typedef of name) = tt
inner-ascending file decl k (item.Native attrs name text) = tt
inner-ascending file decl k (item.Forward name) = tt

inner-later : (file decl : ℕ) (k : Known) (d : ItemBody) (q : Fault) → Among q (inner_faults file decl k d)
    → (q.file ≡ file) × (q.decl ≡ decl) × (0 < q.member)
inner-later file decl k (item.Interface i) q h =
    let r = members-sound i.members file decl 1 (inside k i) q h in
    let far = later-is r.0 1 in
    let e = r.3 in
    (r.1, r.2, omega (arith, e, far))
inner-later file decl k (item.Include name) q h = absurd h
inner-later file decl k item.Code q h = absurd h
inner-later file decl k (item.Typedef of name) q h = absurd h
inner-later file decl k (item.Native attrs name text) q h = absurd h
inner-later file decl k (item.Forward name) q h = absurd h

item-ascending : (file decl : ℕ) (k : Known) (d : ItemBody) → Ascending Before (item_faults file decl k d)
item-ascending file decl k d =
    ascending_append Before (faults_with file decl 0 (codes_at (Declaration k d))) (inner_faults file decl k d)
    (λ x y h g.
    let here = with-sound file decl 0 (codes_at (Declaration k d)) x h in
    let there = inner-later file decl k d y g in
    inr (here.0 ∙ sym there.0, inr (here.1 ∙ sym there.1, inl (let a = here.2 in let b = there.2 in omega (arith, a, b)))))
    (with-ascending file decl 0 (codes_at (Declaration k d)) (codes-ascending conditions 1 (Declaration k d)))
    (inner-ascending file decl k d)

-- ---- items and files

items-ascending : (items : List Item) (file decl : ℕ) (k : Known) → Ascending Before (file_faults file decl k items)
items-ascending [] file decl k = tt
items-ascending (x ∷ items) file decl k =
    ascending_append Before (item_faults file decl k x.body) (file_faults file (suc decl) (after file decl k x.body) items)
    (λ p q h g.
    let here = item-sound file decl k x.body p h in
    let there = items-sound items file (suc decl) (after file decl k x.body) q g in
    let far = later-is there.0 (suc decl) in
    inr (here.0 ∙ sym there.1, inl (let a = here.1 in let b = there.2 in omega (arith, a, b, far))))
    (item-ascending file decl k x.body)
    (items-ascending items file (suc decl) (after file decl k x.body))

files-ascending : (files : List ClosedFile) (file : ℕ) (k : Known) → Ascending Before (faults_from file k files)
files-ascending [] file k = tt
files-ascending (f ∷ files) file k =
    ascending_append Before (file_faults file 0 k f.file.items) (faults_from (suc file) (after_items file 0 k f.file.items) files)
    (λ p q h g.
    let here = items-sound f.file.items file 0 k p h in
    let there = files-sound files (suc file) (after_items file 0 k f.file.items) q g in
    let far = later-is there.0 (suc file) in
    inl (let a = here.1 in let b = there.1 in omega (arith, a, b, far)))
    (items-ascending f.file.items file 0 k)
    (files-ascending files (suc file) (after_items file 0 k f.file.items))

pub faults-ascending : (files : List ClosedFile) → Ascending Before (faults_of files)
faults-ascending files = files-ascending files 0 nothing_known

-- ---- the least

first-among : (fs : List Fault) (q : Fault) → first fs ≡ Some q → Among q fs
first-among [] q e = absurd cc
first-among (f ∷ fs) q e = inl (sym (let same : f ≡ q = cc in same))

first-least : (fs : List Fault) (q r : Fault) → Ascending Before fs → first fs ≡ Some q → Among r fs → (r ≡ q) ⊎ Before q r
first-least [] q r up e h = absurd h
first-least (f ∷ fs) q r up e (inl same) = inl (same ∙ (let is : f ≡ q = cc in is))
first-least (f ∷ fs) q r up e (inr h) = inr (subst (λ (x : Fault). Before x r) (let is : f ≡ q = cc in is) (up.0 r h))

-- the first of all faults is the least
pub first-is_least : (files : List ClosedFile) (e : IdlError) → IsFirst e (faults_of files) → IsLeastFault files e
first-is_least files error.Memory h = tt
first-is_least files (error.Fault code file decl number) h = record {
  holds_there = (exact files (fault code file decl number)).0 (first-among (faults_of files) (fault code file decl number) h);
  stands_first = λ r k. first-least (faults_of files) (fault code file decl number) r (faults-ascending files) h ((exact files r).1 k);
}

none-among : (fs : List Fault) (q : Fault) → fs ≡ [] → Among q fs → ⊥
none-among [] q e h = h
none-among (f ∷ fs) q e h = absurd cc

-- where the list is empty there is no fault
pub none-is_fault : (files : List ClosedFile) → faults_of files ≡ [] → HasNoFault files
none-is_fault files e q h = none-among (faults_of files) q e ((exact files q).1 h)
