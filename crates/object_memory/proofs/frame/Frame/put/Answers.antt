-- The bytes that were written are those of the stack.
use Rattle.std.proofs.Common.{◌≤◌, length, subst, arith}
use Rattle.object_memory.specs.Frames.{IsPlace}
use Rattle.object_memory.proofs.Puts.{puts_written}
use Rattle.object_memory.proofs.frame.Frame.put.Goals as goal

pub returns-in-Stack : goal.returns-in-Stack
returns-in-Stack c =
    let f = c.self.inside in let enough : f.len ≤ length f.bytes = omega (arith, c.self.invariant.0, c.self.invariant.1) in
    let here = subst (λ at. IsPlace c.args.self.now at c.args.space) c.in-Stack.is c.requires in
    rw c.in-Stack.is (puts_written c.args.self.now f.gprs f.fprs f.bytes c.put_low_bytes.new.block f.len c.in-Stack.at c.args.space c.args.pattern c.self.view_is
    c.put_low_bytes.ensures.written enough here.1)
