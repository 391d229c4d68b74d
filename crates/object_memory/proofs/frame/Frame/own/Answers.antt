-- The bytes that are read are those of the stack.
use Rattle.std.proofs.Common.{◌≡◌, ◌+◌, ◌≤◌, length, take, subst, sym, ap, ◌∙◌, arith}
use Rattle.std.proofs.lemmas.List.{length-take-le}
use Rattle.std.specs.Prelude.{slice_range}
use Rattle.xp_base.specs.LittleEndian.{number_of}
use Rattle.call_model.specs.Values.{FrameView, own_at}
use Rattle.object_memory.specs.Frames.{IsPlace}
use Rattle.object_memory.proofs.Access.{slice_range-take}
use Rattle.object_memory.proofs.frame.Frame.own.Goals as goal

pub returns-in-Stack-clause-value : goal.returns-in-Stack-clause-value
returns-in-Stack-clause-value c =
    let f = c.self.inside in let at = c.in-Stack.at in let n = c.args.n in
    let here = subst (λ loc. IsPlace c.args.self.now loc n) c.in-Stack.is c.requires in
    let enough : f.len ≤ length f.bytes = omega (arith, c.self.invariant.0, c.self.invariant.1) in
    let low : at + n ≤ f.len = omega (arith, here.1, ap (λ (k : FrameView). length k.stack) c.self.view_is, length-take-le f.len f.bytes enough) in
    let up : at ≤ at + n = omega arith in
    rw c.in-Stack.is
    (c.number_of_bytes.ensures.value
    ∙ ap number_of (c.bytes.ensures ∙ sym (slice_range-take f.bytes f.len at (at + n) up low) ∙ ap (λ (k : FrameView). slice_range k.stack at (at + n)) c.self.view_is))
