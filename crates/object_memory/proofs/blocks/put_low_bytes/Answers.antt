-- The bytes that are copied are the low ones.
use Rattle.std.proofs.Common.{take, ap, ◌∙◌}
use Rattle.std.specs.Int.{w64}
use Rattle.raw_block.specs.Bytes.{overwritten}
use Rattle.xp_base.proofs.LittleEndian.{take-to_le_bytes}
use Rattle.object_memory.proofs.blocks.put_low_bytes.Goals as goal

pub returns-clause-written : goal.returns-clause-written
returns-clause-written c =
    c.copy_in.ensures ∙ ap (λ l. overwritten c.args.block.now c.args.at l) (ap (λ l. take c.args.n l) c.to_le_bytes.ensures ∙ take-to_le_bytes w64 c.args.n c.args.v c.requires.0)
