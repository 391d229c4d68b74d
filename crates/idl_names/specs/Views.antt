-- What the code's tables know, as what is known at a place.
use Rattle.std.specs.Prelude.{ℕ, ◌==◌, List, [], ◌∷◌, length, reverse, Option, Some, None, nat_lt, if◌then◌else◌}
use Rattle.idl_meaning.specs.Constants.{Values}
use Rattle.idl_meaning.specs.Scopes.{Inside, Own, either, constants_at}
use Rattle.idl_names.specs.declared.constants.Definition.{Definition}
use Rattle.idl_names.specs.declared.here.Here.{Here}
use Rattle.idl_names.specs.declared.interfaces.Around.{Around}
use Rattle.idl_names.specs.Tables.{known}
use Rattle.idl_names.specs.Bindings.{names_of}

-- The constants that are seen in the definition of a rank: its own, and those of its ancestors.
-- The latest stands first, and a parent is one of those before it.
abbrev pub seen_latest : List Definition → ℕ → Values
seen_latest [] rank name = None
seen_latest (d ∷ before) rank name =
    if rank == length before then either (known d.own)
    (constants_at (seen_latest before) d.parent) name else seen_latest before rank name

abbrev pub seen : List Definition → ℕ → Values
seen definitions = seen_latest (reverse definitions)

-- a parent that stands before its child
abbrev pub below : ℕ → Option ℕ → Option ℕ
below rank None = None
below rank (Some parent) = if nat_lt parent rank then Some parent else None

-- what is known at a member of an interface, behind members of its own
abbrev pub inside_with : Around → Own → Inside
inside_with around own = record {
  names = names_of around.names.now;
  own = own;
  outer = constants_at (seen around.constants.now) around.start;
  scriptable = around.scriptable;
}

-- what is known at a member
abbrev pub inside_of : Here → Inside
inside_of here = record {
  names = names_of here.names.now;
  own = known here.own.now;
  outer = constants_at (seen here.constants.now) here.start;
  scriptable = here.scriptable;
}
