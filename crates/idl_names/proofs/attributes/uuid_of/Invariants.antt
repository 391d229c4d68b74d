use Rattle.std.proofs.Common.{◌≡◌, drop}
use Rattle.idl_meaning.specs.Attributes as spec
use Rattle.idl_names.proofs.attributes.uuid_of.Given as goal

abbrev pub invariant-loop-attr : goal.invariant-loop-attr
invariant-loop-attr l = spec.uuid_of l.attrs ≡ spec.uuid_of (drop l.attr-index l.attrs)
