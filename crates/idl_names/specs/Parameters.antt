-- What a table of parameters knows.
use Rattle.std.specs.Prelude.{ℕ, List, Option, option_map}
use Rattle.idl_grammar.specs.declared.tree.ParamDecl.{ParamDecl}
use Rattle.idl_names.specs.declared.parameters.Numbered.{Numbered}
use Rattle.idl_names.specs.declared.table.Table.{Table}
use Rattle.idl_names.specs.Tables.{known}

-- the number of a parameter
abbrev pub number_of : Numbered → ℕ
number_of numbered = numbered.number

-- the parameter itself
abbrev pub param_in : Numbered → ParamDecl
param_in numbered = numbered.param.now

-- the numbers of parameters by name
abbrev pub numbers_of : Table Numbered → List ℕ → Option ℕ
numbers_of table name = option_map number_of (known table name)

-- the parameters by name
abbrev pub params_of : Table Numbered → List ℕ → Option ParamDecl
params_of table name = option_map param_in (known table name)
