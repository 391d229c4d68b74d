use Rattle.std.proofs.Common.{◌≡◌, ℕ, Option, Some, subst, ap, ◌∙◌}
use Rattle.std.specs.Prelude.{IfSome}
use Rattle.stub_dispatch.specs.Calls.{IsObject, this_in}
use Rattle.stub_dispatch.proofs.Objects.{one_number}
use Rattle.stub_dispatch.proofs.stub.object_in.Goals as goal

pub returns : goal.returns
returns g c = λ object is.
    let m = c.args.machine.now in let conv = g.C.Convention.CONV in
    let this : c.this_of-this.result ≡ this_in conv m.frame = c.this_of-this.ensures ∙ ap (this_in conv) c.frame.ensures in
    let found : IsObject m c.this_of-this.result c.unwrap.result
    = subst (λ (r : Option ℕ). IfSome r (λ n. IsObject m c.this_of-this.result n)) c.unwrap.ensures c.object_at.ensures.number in
    one_number m (this_in conv m.frame) object c.unwrap.result c.object_at.ensures.laid_out is (found ∙ ap Some this)
