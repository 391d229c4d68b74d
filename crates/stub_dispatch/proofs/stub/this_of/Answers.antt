use Rattle.std.proofs.Common.{◌≡◌, ap, ◌∙◌}
use Rattle.call_model.specs.Placement.{word_of}
use Rattle.stub_dispatch.proofs.Thises.{has-this}
use Rattle.stub_dispatch.proofs.stub.this_of.Goals as goal

pub own-requires : goal.own-requires
own-requires g c =
    let conv = g.C.Convention.CONV in
    let word : c.own_len.result ≡ word_of conv = c.own_len.ensures ∙ ap word_of c.CONV.ensures in
    rw word (has-this conv c.args.frame.now c.next-at.result g.met.C.Convention.within (c.next-at.ensures.at _ c.begin-walk.ensures.empty) c.requires)
