use Rattle.invoke_by_index.specs.Methods.{prototype}
use Rattle.stub_dispatch.proofs.Recovered.{gives-canonical}
use Rattle.stub_dispatch.proofs.stub.dispatch.Goals as goal

pub returns-clause-canonical : goal.returns-clause-canonical
returns-clause-canonical g c = gives-canonical g.C.Convention.CONV (prototype c.args.method.now) c.args.machine.now.frame
