use Rattle.std.proofs.Common.{◌≡◌, length}
use Rattle.raw_block.specs.Bytes.{overwritten}
use Rattle.object_memory.specs.Layout.{slot_words}
use Rattle.object_memory.proofs.blocks.vtable.Given as goal

abbrev pub invariant-loop-slot : goal.invariant-loop-slot
invariant-loop-slot l = record {
  words : l.block ≡ overwritten l.initial.block 0 (slot_words l.word l.slot);
  same_length : length l.block ≡ length l.initial.block;
}
