-- The directory of a scope: the order in which a typelib has its interfaces.
use Rattle.std.specs.Prelude.{ℕ, suc, ◌+◌, List, [], ◌∷◌, slice_get, nat_eq, Option, Some, None, if◌then◌else◌}
use Rattle.std.specs.List.{filter_map, position_or_len}
use Rattle.std.specs.declared.cmp.Ordering.{Ordering}
use Rattle.std.specs.Ordering.{nat_cmp, ordering_then}
use Rattle.std.specs.Cmp.Lexicographic.{slice_cmp}
use Rattle.std_collections.specs.BTreeMap.{insert_entry}
use Rattle.std_collections.specs.Map.{values_of}
use Rattle.idl_meaning.specs.declared.scope.ScopeIface.{ScopeIface}
use Rattle.idl_meaning.specs.Scopes.{zero_iid}

-- the identifier of an interface: zero where it is declared alone
abbrev pub iid_of : ScopeIface → List ℕ
iid_of i = if i.defined then i.iid else zero_iid

-- what an interface is sorted by: its identifier, and then its name
abbrev pub Key : Type 0
Key = List ℕ × List ℕ

abbrev pub key_of : ScopeIface → Key
key_of i = (iid_of i, i.name)

abbrev pub key_cmp : Key → Key → Ordering
key_cmp a b = ordering_then (slice_cmp nat_cmp a.0 b.0) (slice_cmp nat_cmp a.1 b.1)

-- the entries, and in their order the interfaces, which are numbered from k on
abbrev pub entered : List (Key × ℕ) → ℕ → List ScopeIface → List (Key × ℕ)
entered es k [] = es
entered es k (i ∷ more) = entered (insert_entry key_cmp es (key_of i) k) (k + 1) more

-- the numbers of the interfaces in the scope, in the order of the directory
abbrev pub directory_of : List ScopeIface → List ℕ
directory_of ifaces = values_of (entered [] 0 ifaces)

abbrev pub in_order : List ScopeIface → List ScopeIface
in_order ifaces = filter_map (slice_get ifaces) (directory_of ifaces)

-- the number in the typelib, counted from 1, of the interface that has the number k in the scope
abbrev pub number : List ℕ → ℕ → ℕ
number directory k = suc (position_or_len (nat_eq k) directory)

-- the number of a parent, and 0 for none
abbrev pub parent_number : List ℕ → Option ℕ → ℕ
parent_number directory None = 0
parent_number directory (Some k) = number directory k
