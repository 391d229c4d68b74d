use Rattle.std.specs.Int.{w16}
use Rattle.raw_block.proofs.Words.{stored}
use Rattle.raw_block.proofs.block.Block.store2.Goals as goal

pub returns : goal.returns
returns c =
    stored w16 c.args.self.now c.copy_in.new.self c.to_le_bytes.result c.args.at c.args.v c.to_le_bytes.ensures c.copy_in.ensures
