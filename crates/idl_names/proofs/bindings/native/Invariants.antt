use Rattle.std.proofs.Common.{◌≡◌, drop}
use Rattle.idl_meaning.specs.declared.scope.Meant.TheVariants as meant
use Rattle.idl_meaning.specs.Meaning as spec
use Rattle.idl_names.specs.Bindings.{meant_of}
use Rattle.idl_names.proofs.bindings.native.Given as goal

abbrev pub invariant-loop-attr : goal.invariant-loop-attr
invariant-loop-attr l =
    spec.native_by (meant.Native l.name) (meant_of l.nsid) l.attrs ≡ spec.native_by (meant.Native l.name) (meant_of l.nsid) (drop l.attr-index l.attrs)
