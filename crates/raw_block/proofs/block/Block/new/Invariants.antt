use Rattle.std.proofs.Common.{◌≡◌, ◌+◌, replicate}
use Rattle.raw_block.proofs.block.Block.new.Given as goal

abbrev pub invariant-loop-i : goal.invariant-loop-i
invariant-loop-i l = record {
  here : l.run.ptr ≡ l.ptr;
  zeros : l.run.items ≡ replicate l.i 0;
  left : l.run.room + l.i ≡ l.n;
}
