use Rattle.std.proofs.Common.{◌≡◌, ◌∷◌, ap, ◌∙◌}
use Rattle.call_model.specs.Prototype.{types_of}
use Rattle.call_model.specs.Values.{canon_all, frame_of}
use Rattle.invoke_by_index.specs.Methods.{prototype}
use Rattle.object_memory.specs.Lends.{with_frame}
use Rattle.proxy_objects.proofs.calls.place_all.Goals as goal

pub returns : goal.returns
returns g c =
    let conv = g.D.Convention.CONV in let types = types_of (prototype c.args.method.now) in
    let patterns : c.list_all.new.patterns ≡ canon_all conv types (c.args.target ∷ c.args.cells.now)
    = c.list_all.ensures.patterns ∙ ap (λ k. canon_all k types (c.args.target ∷ c.args.cells.now)) c.CONV.ensures in
    c.fill.ensures ∙ ap (with_frame c.args.machine.now) (λ i. frame_of conv (c.list_all.ensures.types i) (patterns i))
