use Rattle.std.proofs.Common.{◌≡◌, length}
use Rattle.idl_grammar.specs.Grammar as spec
use Rattle.idl_grammar.specs.Read.{read}
use Rattle.idl_grammar.specs.Gives.{passed}
use Rattle.idl_grammar.proofs.members.pass_names.Given as goal

abbrev pub invariant-turns : goal.invariant-turns
invariant-turns l = passed (read spec.more_names l.initial.cursor) ≡ passed (read spec.more_names l.cursor)

abbrev pub decreases-turns : goal.decreases-turns
decreases-turns l = length l.cursor
