-- The arguments so far are fewer than 512, and take at most 8 bytes of the area each.
use Rattle.std.proofs.Common.{arith}
use Rattle.call_model.specs.Laws.{area-bounded}
use Rattle.aapcs32.proofs.WalkConvention.next.Goals as goal
use Rattle.aapcs32.proofs.WalkConvention.next.Goals.{then-is_wide, else-is_wide}

pub overflow_add-at : goal.overflow_add-at
overflow_add-at c = omega (arith, area-bounded c.requires.0, c.requires.1, c.requires.2)

pub overflow_mul-at : goal.overflow_mul-at
overflow_mul-at c = omega (arith, area-bounded c.requires.0, c.requires.1, c.requires.2)

pub overflow_add-self : goal.overflow_add-self
overflow_add-self c =
    elim c.if-is_wide.branch [
      | then-is_wide w ↦ omega (arith, w.at-is, area-bounded c.requires.0, c.requires.1, c.requires.2)
      | else-is_wide w ↦ omega (arith, w.at-is, area-bounded c.requires.0, c.requires.1, c.requires.2)
    ]
