use Rattle.std.proofs.Common.{◌≡◌, drop}
use Rattle.idl_meaning.specs.Attributes as spec
use Rattle.idl_names.proofs.attributes.word_of.Given as goal

abbrev pub invariant-loop-attr : goal.invariant-loop-attr
invariant-loop-attr l = spec.word_of l.name l.attrs ≡ spec.word_of l.name (drop l.attr-index l.attrs)
