-- Blocks that follow each other rise by their addresses.
use Rattle.std.proofs.Common.{leb, leb-true, rules}
use Rattle.std.proofs.lemmas.List.Sorted.{IsPartitionPoint-from_clause, IsPartitionedBy-leb}
use Rattle.object_memory.specs.declared.data_block.DataBlock.{DataBlock}
use Rattle.object_memory.proofs.Search.{addresses_rise, not_up_to}
use Rattle.object_memory.proofs.blocks.count_up_to.Goals as goal

pub returns-clause-point : goal.returns-clause-point
returns-clause-point c =
    let parted = IsPartitionedBy-leb (λ (b : DataBlock). b.address) _ c.args.at (addresses_rise c.args.blocks.now c.requires) in
    let point = IsPartitionPoint-from_clause (λ (b : DataBlock). leb b.address c.args.at) _ _ c.partition_point.ensures.partitioned parted (λ a r q k. search rules) in
    (λ k d low high. leb-true _ _ (point.0 k d low high), λ k d low high. not_up_to _ _ (point.1 k d low high))
