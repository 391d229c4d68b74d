use Rattle.std.proofs.Common.{◌≡◌, ◌-◌, replicate}
use Rattle.raw_block.specs.Bytes.{overwritten}
use Rattle.object_memory.proofs.blocks.zero.Given as goal

abbrev pub invariant-loop-i : goal.invariant-loop-i
invariant-loop-i l = l.block ≡ overwritten l.initial.block l.start (replicate (l.i - l.start) 0)
