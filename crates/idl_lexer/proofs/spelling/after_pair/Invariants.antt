use Rattle.std.proofs.Common.{◌≡◌, length}
use Rattle.idl_lexer.specs.Reading as spec
use Rattle.idl_lexer.proofs.spelling.after_pair.Given as goal

abbrev pub invariant-loop-rest : goal.invariant-loop-rest
invariant-loop-rest l = spec.after_pair l.first l.second l.rest ≡ spec.after_pair l.fn.first l.fn.second l.fn.bytes

abbrev pub decreases-loop-rest : goal.decreases-loop-rest
decreases-loop-rest l = length l.rest
