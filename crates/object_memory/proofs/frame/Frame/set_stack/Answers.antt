-- The bytes that were written are those of the stack.
use Rattle.std.proofs.Common.{◌≤◌, length, ap, ◌∙◌, arith}
use Rattle.raw_block.specs.Bytes.{overwritten}
use Rattle.object_memory.specs.Widths.{bytes_of}
use Rattle.xp_base.specs.LittleEndian.{low_bytes}
use Rattle.object_memory.proofs.Puts.{puts_written}
use Rattle.object_memory.proofs.frame.Frame.set_stack.Goals as goal

pub returns : goal.returns
returns c =
    let f = c.self.inside in let enough : f.len ≤ length f.bytes = omega (arith, c.self.invariant.0, c.self.invariant.1) in
    puts_written c.args.self.now f.gprs f.fprs f.bytes c.put_low_bytes.new.block f.len c.args.at (bytes_of c.args.width) c.args.v c.self.view_is
    (c.put_low_bytes.ensures.written ∙ ap (λ n. overwritten f.bytes c.args.at (low_bytes n c.args.v)) c.bytes.ensures) enough c.requires
