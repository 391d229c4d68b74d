-- The order of a header's classes: by the file and declaration that defines each, so that a class
-- stands behind its parent.
use Rattle.std.specs.Prelude.{ℕ, ◌+◌, List, [], ◌∷◌, if◌then◌else◌}
use Rattle.std.specs.declared.cmp.Ordering.{Ordering}
use Rattle.std.specs.Ordering.{nat_cmp, ordering_then}
use Rattle.std_collections.specs.BTreeMap.{insert_entry}
use Rattle.std_collections.specs.Map.{values_of}
use Rattle.idl_meaning.specs.declared.scope.ScopeIface.{ScopeIface}

-- a place of a definition: the numbers of its file and its declaration
abbrev pub Spot : Type 0
Spot = ℕ × ℕ

abbrev pub spot_of : ScopeIface → Spot
spot_of i = (i.file, i.decl)

abbrev pub spot_cmp : Spot → Spot → Ordering
spot_cmp a b = ordering_then (nat_cmp a.0 b.0) (nat_cmp a.1 b.1)

-- the entries, and in their order the defined ones of the interfaces, which are numbered from k on
abbrev pub placed : List (Spot × ℕ) → ℕ → List ScopeIface → List (Spot × ℕ)
placed es k [] = es
placed es k (i ∷ more) =
    placed (if i.defined then insert_entry spot_cmp es (spot_of i) k else es) (k + 1) more

-- the numbers of the defined interfaces, in the order of their definitions
abbrev pub definitions_of : List ScopeIface → List ℕ
definitions_of ifaces = values_of (placed [] 0 ifaces)
