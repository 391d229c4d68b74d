-- The bytes that were written are those of the stack.
use Rattle.std.proofs.Common.{◌≡◌, ◌+◌, ◌≤◌, length, take, ap, ◌∙◌, arith}
use Rattle.std.proofs.lemmas.List.{length-take-le}
use Rattle.call_model.specs.Values.{FrameView}
use Rattle.object_memory.specs.Frames.{with_stack_bytes}
use Rattle.object_memory.proofs.Lists.{take-overwritten}
use Rattle.object_memory.proofs.frame.Frame.set_stack_bytes.Goals as goal

pub returns : goal.returns
returns c =
    let f = c.self.inside in let at = c.args.at in let bytes = c.args.bytes.now in
    let enough : f.len ≤ length f.bytes = omega (arith, c.self.invariant.0, c.self.invariant.1) in
    let end : at + length bytes ≤ f.len = omega (arith, c.requires, ap (λ (k : FrameView). length k.stack) c.self.view_is, length-take-le f.len f.bytes enough) in
    let within : at + length bytes ≤ length f.bytes = omega (arith, end, enough) in
    ap (λ stack. record { gprs = f.gprs; fprs = f.fprs; stack = stack }) (ap (take f.len) c.copy_in.ensures ∙ take-overwritten f.bytes at bytes within f.len end)
    ∙ ap (λ (k : FrameView). with_stack_bytes k at bytes) c.self.view_is
