use Rattle.std.proofs.Common.{length}
use Rattle.idl_lexer.proofs.LexLaws.{IsReadTo}
use Rattle.idl_lexer.proofs.lexer.tokens_of.Given as goal

abbrev pub invariant-loop-rest : goal.invariant-loop-rest
invariant-loop-rest l = IsReadTo l.source l.list l.rest l.line

abbrev pub decreases-loop-rest : goal.decreases-loop-rest
decreases-loop-rest l = length l.rest
