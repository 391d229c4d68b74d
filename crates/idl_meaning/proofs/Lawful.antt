-- The interfaces in the scope of lawful files are lawful: their names are words of the language,
-- and their members few.
use Rattle.std.proofs.Common.{◌≡◌, ℕ, zero, suc, ◌<◌, ◌≤◌, ◌^◌, Bool, true, false, ◌==◌, ◌⊎◌, inl, inr, List, [], ◌∷◌, ◌++◌, length, Option, Some, None, arith, subst, if◌then◌else◌}
use Rattle.std.specs.Prelude.{All, slice_get, slice_set, is_some}
use Rattle.std.specs.List.{cons_option}
use Rattle.std.proofs.lemmas.List.Elements.{All-head, All-tail}
use Rattle.idl_grammar.specs.declared.tree.ClosedFile.{ClosedFile}
use Rattle.idl_grammar.specs.declared.tree.Item.{Item}
use Rattle.idl_grammar.specs.declared.tree.ItemBody.{ItemBody}
use Rattle.idl_grammar.specs.declared.tree.ItemBody.TheVariants as item
use Rattle.idl_grammar.specs.declared.tree.Member.{Member}
use Rattle.idl_grammar.specs.declared.tree.MemberBody.{MemberBody}
use Rattle.idl_grammar.specs.declared.tree.MemberBody.TheVariants as member
use Rattle.idl_grammar.specs.declared.tree.ParamDecl.{ParamDecl}
use Rattle.idl_grammar.specs.Texts.{IsLawfulFile}
use Rattle.idl_grammar.specs.Trees.{IsName, IsItemBody, IsMemberBody, IsParamDecl}
use Rattle.idl_grammar.proofs.TreeMade.{tree-made}
use Rattle.idl_meaning.specs.declared.scope.ScopeBody.{ScopeBody}
use Rattle.idl_meaning.specs.declared.scope.ScopeIface.{ScopeIface}
use Rattle.idl_meaning.specs.declared.scope.ScopeMember.{ScopeMember}
use Rattle.idl_meaning.specs.declared.scope.ScopeParam.{ScopeParam}
use Rattle.idl_grammar.specs.ClosedFiles.{AreLawfulFiles}
use Rattle.idl_meaning.specs.Meaning.{Names, learns, Forward, sense}
use Rattle.idl_meaning.specs.Constants.{kind_by, value_of}
use Rattle.idl_meaning.specs.Scopes.{Known, Inside, number_in, param_made, params_made, visible, nothing_known, next_number, inside, inside_after, body_made, member_name, member_made, members_made, bare_iface, placed, after_forward, after_new, redeclares, after, after_items, after_files}
use Rattle.idl_meaning.specs.Accepted.{HasNamedParams, IsLawfulIface}
use Rattle.idl_meaning.proofs.Members.{made-cases, member-of, name-of, of-constant, OfOption}
use Rattle.idl_meaning.proofs.Good.{last-from, set-from}

abbrev AreLawful : List ScopeIface → Type 0
AreLawful ifaces = (k : ℕ) (i : ScopeIface) → slice_get ifaces k ≡ Some i → IsLawfulIface i

-- ---- members

name-word : (most : ℕ) (m : MemberBody) (name : List ℕ) → IsMemberBody most m
    → member_name m ≡ Some name → IsName name
name-word most member.Code name h e = absurd cc
name-word most (member.Constant of n value) name h e = let same : n ≡ name =
    cc in subst (λ (t : List ℕ). IsName t) same h.1
name-word most (member.Attribute attrs readonly of n) name h e = let same : n ≡ name =
    cc in subst (λ (t : List ℕ). IsName t) same h.2
name-word most (member.Method attrs of n params) name h e = let same : n ≡ name =
    cc in subst (λ (t : List ℕ). IsName t) same h.2

none-there : {P : Type 0} (k : ℕ) (m : ScopeMember) → slice_get [] k ≡ Some m → P
none-there k m e = absurd cc

params-named : (most : ℕ) (names : Names) (numbers : List ℕ → Option ℕ) (ps : List ParamDecl)
    → All (IsParamDecl most) ps → (k : ℕ) (p : ScopeParam)
    → slice_get (params_made names numbers ps) k ≡ Some p → IsName p.name
params-named most names numbers [] h k p e = absurd cc
params-named most names numbers (q ∷ ps) h zero p e = let same : param_made names numbers q ≡ p =
    cc in subst (λ (x : ScopeParam). IsName x.name) same
    (All-head (IsParamDecl most) q ps h).named
params-named most names numbers (q ∷ ps) h (suc k) p e =
    params-named most names numbers ps (All-tail (IsParamDecl most) q ps h) k p e

body-named : (most : ℕ) (at : Inside) (m : MemberBody) (b : ScopeBody) → IsMemberBody most m
    → body_made at m ≡ Some b → HasNamedParams b
body-named most at member.Code b h e = absurd cc
body-named most at (member.Constant of name value) b h e =
    of-constant HasNamedParams (λ kind v is. tt) (kind_by (sense at.names of))
    (value_of (visible at) value.steps) b e
body-named most at (member.Attribute attrs readonly of name) b h e =
    subst (λ (o : Option ScopeBody). OfOption HasNamedParams o) e tt
body-named most at (member.Method attrs of name params) b h e =
    subst (λ (o : Option ScopeBody). OfOption HasNamedParams o) e
    (params-named most at.names (number_in params) params h.3.each)

-- the names of a member and of its parameters
abbrev IsNamed : ScopeMember → Type 0
IsNamed m = IsName m.name × HasNamedParams m.body

members-named : (most number : ℕ) (at : Inside) (ms : List Member)
    → All (λ (one : Member). IsMemberBody most one.body) ms
    → (k : ℕ) (m : ScopeMember) → slice_get (members_made number at ms) k ≡ Some m → IsNamed m
members-named most number at [] h = λ k m e. none-there k m e
members-named most number at (x ∷ ms) h =
    λ k m e.
    made-cases (member_made (member_name x.body) number (body_made at x.body))
    (members_made (suc number) (inside_after at x.body) ms) k m IsNamed
    (λ y is.
    let lawful = All-head (λ (one : Member). IsMemberBody most one.body) x ms h in (
      name-word most x.body y.name lawful
          (name-of (member_name x.body) number (body_made at x.body) y is),
      body-named most at x.body y.body lawful
          (member-of (member_name x.body) number (body_made at x.body) y is),
    ))
    (members-named most (suc number) (inside_after at x.body) ms
    (All-tail (λ (one : Member). IsMemberBody most one.body) x ms h))
    e

option-few : (o : Option ScopeMember) (rest : List ScopeMember) (n : ℕ) → length rest ≤ n
    → length (cons_option o rest) ≤ suc n
option-few None rest n h = omega arith
option-few (Some x) rest n h = omega arith

-- no more members than are written
made-few : (number : ℕ) (at : Inside) (ms : List Member)
    → length (members_made number at ms) ≤ length ms
made-few number at [] = omega arith
made-few number at (x ∷ ms) =
    option-few (member_made (member_name x.body) number (body_made at x.body))
    (members_made (suc number) (inside_after at x.body) ms) (length ms)
    (made-few (suc number) (inside_after at x.body) ms)

-- ---- interfaces

one-more : (ifaces : List ScopeIface) (x : ScopeIface) → AreLawful ifaces → IsLawfulIface x
    → AreLawful (ifaces ++ x ∷ [])
one-more ifaces x named ok k i e = go (last-from ifaces x k i e) where
  go : ((k ≡ length ifaces) × (x ≡ i)) ⊎ (slice_get ifaces k ≡ Some i) → IsLawfulIface i
  go (inl h) = subst (λ (y : ScopeIface). IsLawfulIface y) h.1 ok
  go (inr h) = named k i h

one-changed : (ifaces : List ScopeIface) (n : ℕ) (x : ScopeIface) → AreLawful ifaces
    → IsLawfulIface x → AreLawful (slice_set ifaces n x)
one-changed ifaces n x named ok k i e = go (set-from ifaces n x k i e) where
  go : ((k ≡ n) × (x ≡ i)) ⊎ (slice_get ifaces k ≡ Some i) → IsLawfulIface i
  go (inl h) = subst (λ (y : ScopeIface). IsLawfulIface y) h.1 ok
  go (inr h) = named k i h

placed-lawful : (ifaces : List ScopeIface) (n : ℕ) (x : ScopeIface) → AreLawful ifaces
    → IsLawfulIface x → AreLawful (placed ifaces n x)
placed-lawful ifaces n x named ok = go (n == length ifaces) where
  go : (b : Bool) → AreLawful (if b then ifaces ++ x ∷ [] else slice_set ifaces n x)
  go true = one-more ifaces x named ok
  go false = one-changed ifaces n x named ok

bare-lawful : (file decl : ℕ) (name : List ℕ) → IsName name
    → IsLawfulIface (bare_iface file decl name)
bare-lawful file decl name h =
    record {
      named = h;
      members_named = λ k m e. none-there k m e;
      params_named = λ k m e. none-there k m e;
      few_members = omega arith;
    }

forward-lawful : (file decl : ℕ) (k : Known) (name : List ℕ) → IsName name → AreLawful k.ifaces
    → AreLawful (after_forward file decl k name).ifaces
forward-lawful file decl k name h named = go (is_some (k.names name)) where
  go : (b : Bool)
      → AreLawful (if b then k
      else record k {
        names = learns k.names name (Some (Forward (length k.ifaces)));
        ifaces =
            k.ifaces ++ bare_iface file decl name ∷ [];
      }).ifaces
  go true = named
  go false = one-more k.ifaces (bare_iface file decl name) named (bare-lawful file decl name h)

new-lawful : (most : ℕ) → most < 2 ^ 32 → (file decl : ℕ) (k : Known) (d : ItemBody)
    → IsItemBody most d → AreLawful k.ifaces → AreLawful (after_new file decl k d).ifaces
new-lawful most low file decl k (item.Include name) h named = named
new-lawful most low file decl k item.Code h named = named
new-lawful most low file decl k (item.Typedef of name) h named = named
new-lawful most low file decl k (item.Native attrs name text) h named = named
new-lawful most low file decl k (item.Forward name) h named =
    forward-lawful file decl k name h named
new-lawful most low file decl k (item.Interface i) h named =
    placed-lawful k.ifaces (next_number k i.name) _ named
    (record {
      named = h.named;
      members_named = λ n m e. (members-named most 1 (inside k i) i.members h.members.each n m e).0;
      params_named = λ n m e. (members-named most 1 (inside k i) i.members h.members.each n m e).1;
      few_members = let made = made-few 1 (inside k i) i.members in let written =
          h.members.few in omega arith;
    })

item-lawful : (most : ℕ) → most < 2 ^ 32 → (file decl : ℕ) (k : Known) (d : ItemBody)
    → IsItemBody most d → AreLawful k.ifaces → AreLawful (after file decl k d).ifaces
item-lawful most low file decl k d h named = go (redeclares k.names d) where
  go : (b : Bool) → AreLawful (if b then k else after_new file decl k d).ifaces
  go true = named
  go false = new-lawful most low file decl k d h named

items-lawful : (most : ℕ) → most < 2 ^ 32 → (file decl : ℕ) (k : Known) (items : List Item)
    → All (λ (one : Item). IsItemBody most one.body) items → AreLawful k.ifaces
    → AreLawful (after_items file decl k items).ifaces
items-lawful most low file decl k [] h named = named
items-lawful most low file decl k (x ∷ items) h named =
    items-lawful most low file (suc decl) (after file decl k x.body) items
    (All-tail (λ (one : Item). IsItemBody most one.body) x items h)
    (item-lawful most low file decl k x.body
    (All-head (λ (one : Item). IsItemBody most one.body) x items h) named)

files-lawful : (file : ℕ) (k : Known) (files : List ClosedFile) → AreLawfulFiles files
    → AreLawful k.ifaces → AreLawful (after_files file k files).ifaces
files-lawful file k [] h named = named
files-lawful file k (f ∷ files) h named =
    let lawful : IsLawfulFile f.file =
    All-head (λ (one : ClosedFile). IsLawfulFile one.file) f files h in
    files-lawful (suc file) (after_items file 0 k f.file.items) files
    (All-tail (λ (one : ClosedFile). IsLawfulFile one.file) f files h)
    (items-lawful (length lawful.has.tokens) lawful.few file 0 k f.file.items
    (tree-made lawful.bytes f.file lawful.has).each named)

none-lawful : AreLawful []
none-lawful k i e = absurd cc

pub scope-lawful : (files : List ClosedFile) → AreLawfulFiles files
    → AreLawful (after_files 0 nothing_known files).ifaces
scope-lawful files lawful = files-lawful 0 nothing_known files lawful none-lawful
