-- What the code's state makes known.
use Rattle.std.specs.Prelude.{ℕ, List, length, codes, Option, Some, None, is_some, if◌then◌else◌}
use Rattle.idl_grammar.specs.declared.tree.Interface.{Interface}
use Rattle.idl_meaning.specs.Attributes.{has}
use Rattle.idl_meaning.specs.Meaning.{nothing}
use Rattle.idl_meaning.specs.Scopes.{Known, Inside, constants_at}
use Rattle.idl_names.specs.declared.state.State.{State}
use Rattle.idl_names.specs.Tables.{used}
use Rattle.idl_names.specs.Bindings.{names_of}
use Rattle.idl_names.specs.Views.{seen}

-- what is known behind the declarations that were taken
abbrev pub view : State → Known
view state = record {
  names = names_of state.names;
  iids = used state.iids;
  ifaces = state.ifaces.items;
  defined = length state.constants;
  constants = seen state.constants;
}

-- the code of an identifier that is not there, or was used
abbrev pub iid_code : (List ℕ → Option (Unit {0})) → Option (List ℕ) → Option ℕ
iid_code iids None = Some 4
iid_code iids (Some iid) = if is_some (iids iid) then Some 5 else None

-- what is known at the first member of an interface whose name is bound, and whose parent has
-- this rank
abbrev pub opened : State → Option ℕ → Interface → Inside
opened state start i = record {
  names = names_of state.names;
  own = nothing;
  outer = constants_at (seen state.constants) start;
  scriptable = has (codes "scriptable") i.attrs;
}
