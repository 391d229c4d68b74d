-- Files declare no more interfaces than they have items.
use Rattle.std.proofs.Common.{ℕ, zero, suc, ◌+◌, ◌≤◌, Bool, true, false, ◌==◌, List, [], ◌∷◌, ◌++◌, length, length-append, Some, arith, if◌then◌else◌}
use Rattle.std.specs.Prelude.{slice_set, is_some}
use Rattle.std.proofs.lemmas.List.Sums.{sum_by-cons}
use Rattle.idl_grammar.specs.declared.tree.ClosedFile.{ClosedFile}
use Rattle.idl_grammar.specs.declared.tree.Item.{Item}
use Rattle.idl_grammar.specs.declared.tree.ItemBody.{ItemBody}
use Rattle.idl_grammar.specs.declared.tree.ItemBody.TheVariants as item
use Rattle.idl_grammar.specs.ClosedFiles.{items_of}
use Rattle.idl_meaning.specs.declared.scope.ScopeIface.{ScopeIface}
use Rattle.idl_meaning.specs.Meaning.{learns, Forward}
use Rattle.idl_meaning.specs.Scopes.{Known, nothing_known, next_number, bare_iface, placed, after_forward, after_new, redeclares, after, after_items, after_files}

set-few : (xs : List ScopeIface) (n : ℕ) (x : ScopeIface) → length (slice_set xs n x) ≤ length xs
set-few [] n x = omega arith
set-few (y ∷ xs) zero x = omega arith
set-few (y ∷ xs) (suc n) x = let h = set-few xs n x in omega arith

placed-few : (ifaces : List ScopeIface) (n : ℕ) (x : ScopeIface)
    → length (placed ifaces n x) ≤ suc (length ifaces)
placed-few ifaces n x = go (n == length ifaces) where
  go : (b : Bool)
      → length (if b then ifaces ++ x ∷ [] else slice_set ifaces n x) ≤ suc (length ifaces)
  go true = omega (arith, length-append ifaces (x ∷ []))
  go false = let h = set-few ifaces n x in omega arith

forward-few : (file decl : ℕ) (k : Known) (name : List ℕ)
    → length (after_forward file decl k name).ifaces ≤ suc (length k.ifaces)
forward-few file decl k name = go (is_some (k.names name)) where
  go : (b : Bool)
      → length (if b then k
      else record k {
        names = learns k.names name (Some (Forward (length k.ifaces)));
        ifaces =
            k.ifaces ++ bare_iface file decl name ∷ [];
      }).ifaces ≤ suc (length k.ifaces)
  go true = omega arith
  go false = omega (arith, length-append k.ifaces (bare_iface file decl name ∷ []))

new-few : (file decl : ℕ) (k : Known) (d : ItemBody)
    → length (after_new file decl k d).ifaces ≤ suc (length k.ifaces)
new-few file decl k (item.Include name) = omega arith
new-few file decl k item.Code = omega arith
new-few file decl k (item.Typedef of name) = omega arith
new-few file decl k (item.Native attrs name text) = omega arith
new-few file decl k (item.Forward name) = forward-few file decl k name
new-few file decl k (item.Interface i) = placed-few k.ifaces (next_number k i.name) _

item-few : (file decl : ℕ) (k : Known) (d : ItemBody)
    → length (after file decl k d).ifaces ≤ suc (length k.ifaces)
item-few file decl k d = go (redeclares k.names d) where
  go : (b : Bool) → length (if b then k else after_new file decl k d).ifaces ≤ suc (length k.ifaces)
  go true = omega arith
  go false = new-few file decl k d

items-few : (file decl : ℕ) (k : Known) (items : List Item)
    → length (after_items file decl k items).ifaces ≤ length k.ifaces + length items
items-few file decl k [] = omega arith
items-few file decl k (x ∷ items) =
    let one = item-few file decl k x.body in
    let more = items-few file (suc decl) (after file decl k x.body) items in
    omega arith

files-few : (file : ℕ) (k : Known) (files : List ClosedFile)
    → length (after_files file k files).ifaces ≤ length k.ifaces + items_of files
files-few file k [] = omega arith
files-few file k (f ∷ files) =
    let one = items-few file 0 k f.file.items in
    let more = files-few (suc file) (after_items file 0 k f.file.items) files in
    omega (arith, sum_by-cons (λ (one : ClosedFile). length one.file.items) f files)

pub scope-few : (files : List ClosedFile)
    → length (after_files 0 nothing_known files).ifaces ≤ items_of files
scope-few files = let h = files-few 0 nothing_known files in omega arith
