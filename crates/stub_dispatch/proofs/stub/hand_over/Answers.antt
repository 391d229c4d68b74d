use Rattle.std.proofs.Common.{ℕ, List, sym, subst, ap, ◌∙◌}
use Rattle.invoke_by_index.specs.Methods.{prototype}
use Rattle.stub_dispatch.specs.Calls.{call_of}
use Rattle.stub_dispatch.specs.Cells.{received_cells}
use Rattle.stub_dispatch.proofs.stub.hand_over.Goals as goal

pub returns-clause-called : goal.returns-clause-called
returns-clause-called g c = λ object is.
    let m = c.args.machine.now in let method = c.args.method.now in
    let Reacts : ℕ → List ℕ → Type 0 = λ n cells. g.K.Callee.reacts c.args.callee.now m (call_of method n cells) c.enter.new.callee c.enter.new.machine c.enter.result in
    let received = c.in_ok-recover.ensures.received ∙ ap (received_cells g.C.Convention.CONV (prototype method)) c.frame.ensures in
    subst (λ n. Reacts n (received_cells g.C.Convention.CONV (prototype method) m.frame)) (sym (c.object_in-object.ensures object is))
    (subst (Reacts c.object_in-object.result) received c.enter.ensures)
