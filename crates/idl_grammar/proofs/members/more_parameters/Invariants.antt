use Rattle.std.proofs.Common.{◌≡◌, length}
use Rattle.idl_grammar.specs.Grammar as spec
use Rattle.idl_grammar.specs.Read.{read}
use Rattle.idl_grammar.specs.Gives.{more, plain}
use Rattle.idl_grammar.proofs.members.more_parameters.Given as goal

abbrev pub invariant-turns : goal.invariant-turns
invariant-turns l = more plain l.initial.found (read spec.more_parameters l.initial.cursor) ≡ more plain l.found (read spec.more_parameters l.cursor)

abbrev pub decreases-turns : goal.decreases-turns
decreases-turns l = length l.cursor
