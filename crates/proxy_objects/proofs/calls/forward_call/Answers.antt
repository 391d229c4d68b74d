use Rattle.std.proofs.Common.{sym, subst, ap}
use Rattle.invoke_by_index.specs.Methods.{prototype}
use Rattle.object_memory.specs.Memory.{MachineView}
use Rattle.proxy_objects.specs.Handing.{HandsOn}
use Rattle.proxy_objects.proofs.Handed.{hands-on}
use Rattle.proxy_objects.proofs.calls.forward_call.Goals as goal

pub returns-clause-values : goal.returns-clause-values
returns-clause-values g c =
    let conv = g.D.Convention.CONV in let proto = prototype c.args.method.now in
    let left = ap (λ (k : MachineView). k.frame) c.place_all.ensures in
    subst (HandsOn conv proto c.args.target c.args.cells.now) (sym left) (hands-on conv proto c.args.target c.args.cells.now)
