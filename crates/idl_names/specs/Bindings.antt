-- What the code's lent forms stand for.
use Rattle.std.specs.Prelude.{option_map}
use Rattle.idl_meaning.specs.declared.scope.Meant.{Meant}
use Rattle.idl_meaning.specs.declared.scope.Meant.TheVariants as meant
use Rattle.idl_meaning.specs.Meaning as spec
use Rattle.idl_names.specs.declared.bindings.Lent.{Lent}
use Rattle.idl_names.specs.declared.bindings.Lent.TheVariants as lent
use Rattle.idl_names.specs.declared.bindings.Binding.{Binding}
use Rattle.idl_names.specs.declared.bindings.Binding.TheVariants as binding
use Rattle.idl_names.specs.declared.bindings.Reading.{Reading}
use Rattle.idl_names.specs.declared.bindings.Reading.TheVariants as reading
use Rattle.idl_names.specs.declared.table.Table.{Table}
use Rattle.idl_names.specs.Tables.{known}

-- a meaning, with its text
abbrev pub meant_of : Lent → Meant
meant_of (lent.Basic tag) = meant.Basic tag
meant_of (lent.Iface number) = meant.Iface number
meant_of lent.NsidRef = meant.NsidRef
meant_of lent.NsidPtr = meant.NsidPtr
meant_of (lent.StringClass tag) = meant.StringClass tag
meant_of lent.JsVal = meant.JsVal
meant_of (lent.Native name) = meant.Native name.now

-- what a name is bound to
abbrev pub bound_of : Binding → spec.Bound
bound_of (binding.Typed lent) = spec.Typed (meant_of lent)
bound_of (binding.Forward number) = spec.Forward number
bound_of (binding.Defined number rank) = spec.Defined number rank

-- the names that a table binds
abbrev pub names_of : Table Binding → spec.Names
names_of table name = option_map bound_of (known table name)

-- what a type is at a place
abbrev pub sense_of : Reading → spec.Sense
sense_of reading.Unknown = spec.Unknown
sense_of reading.Nothing = spec.Nothing
sense_of (reading.Means lent) = spec.Means (meant_of lent)
