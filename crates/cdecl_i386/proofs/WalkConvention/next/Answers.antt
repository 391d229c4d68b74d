-- The arguments so far are fewer than 512, of at most 8 bytes each.
use Rattle.std.proofs.Common.{arith}
use Rattle.call_model.specs.Laws.{words-bounded}
use Rattle.cdecl_i386.proofs.WalkConvention.next.Goals as goal

pub overflow_add-self : goal.overflow_add-self
overflow_add-self c = omega (arith, words-bounded c.requires.0, c.requires.1, c.requires.2)
