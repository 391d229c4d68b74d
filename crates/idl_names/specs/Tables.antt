-- What a table of the code knows, as a function of names.
use Rattle.std.specs.Prelude.{ℕ, List, Option}
use Rattle.std.specs.Str.{bytes_eq}
use Rattle.indexmap.specs.IndexMap.{get_by}
use Rattle.idl_names.specs.declared.table.Table.{Table}
use Rattle.idl_names.specs.declared.identifiers.Identifiers.{Identifiers}

-- what a name means
abbrev pub known : {V : Type 0} → Table V → List ℕ → Option V
known table name = get_by (λ k. bytes_eq name k.now) table.map

-- whether an identifier was used
abbrev pub used : Identifiers → List ℕ → Option (Unit {0})
used identifiers iid = get_by (λ k. bytes_eq iid k) identifiers.map
