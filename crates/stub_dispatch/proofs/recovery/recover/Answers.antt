use Rattle.std.proofs.Common.{subst, sym}
use Rattle.invoke_by_index.specs.Methods.{prototype}
use Rattle.stub_dispatch.specs.Cells.{GivesCanonical}
use Rattle.stub_dispatch.proofs.Recovered.{gives-canonical}
use Rattle.stub_dispatch.proofs.recovery.recover.Goals as goal

pub returns-clause-canonical : goal.returns-clause-canonical
returns-clause-canonical g c =
    let conv = g.C.Convention.CONV in let proto = prototype c.args.method.now in
    subst (GivesCanonical conv proto c.args.frame.now) (sym c.recover_each.ensures.received) (gives-canonical conv proto c.args.frame.now)
