use Rattle.std.proofs.Common.{IfOk, subst, sym}
use Rattle.include_closure.specs.Steps.{Follows, Opens}
use Rattle.include_closure.proofs.files.follow.Goals as goal

pub returns-in-Include-clause-ok : goal.returns-in-Include-clause-ok
returns-in-Include-clause-ok g c told t =
    subst (λ body. IfOk c.open.result (λ frame. Follows told c.args.visited.now body frame c.open.new.visited)) (sym c.in-Include.is)
    (subst (λ name. IfOk c.open.result (λ frame. Opens told c.args.visited.now name frame c.open.new.visited)) c.as_slice.ensures (c.open.ensures.ok told t))
