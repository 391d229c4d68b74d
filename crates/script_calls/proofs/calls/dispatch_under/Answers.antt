use Rattle.std.proofs.Common.{◌≡◌, Some, subst}
use Rattle.object_memory.specs.Memory.{entry_at}
use Rattle.stub_dispatch.specs.Calls.{this_in}
use Rattle.script_calls.proofs.calls.dispatch_under.Goals as goal

pub dispatch-requires-in-I386-clause-entry : goal.dispatch-requires-in-I386-clause-entry
dispatch-requires-in-I386-clause-entry g c =
    let m = c.args.machine.now in
    subst (λ k. entry_at m (this_in k m.frame) c.args.method.now.slot ≡ Some c.args.entry) c.in-I386.is c.requires.entry

pub dispatch-requires-in-Aapcs32-clause-entry : goal.dispatch-requires-in-Aapcs32-clause-entry
dispatch-requires-in-Aapcs32-clause-entry g c =
    let m = c.args.machine.now in
    subst (λ k. entry_at m (this_in k m.frame) c.args.method.now.slot ≡ Some c.args.entry) c.in-Aapcs32.is c.requires.entry
