use Rattle.std.proofs.Common.{subst, sym}
use Rattle.invoke_by_index.specs.Methods.{prototype}
use Rattle.proxy_objects.specs.Handing.{HandsOn}
use Rattle.script_calls.proofs.calls.forward_under.Goals as goal

pub returns-in-SysV64-clause-values : goal.returns-in-SysV64-clause-values
returns-in-SysV64-clause-values c =
    subst (λ k. HandsOn k (prototype c.args.method.now) c.args.target c.args.cells.now c.forward_call.new.machine.frame) (sym c.in-SysV64.is) c.forward_call.ensures.values

pub returns-in-I386-clause-values : goal.returns-in-I386-clause-values
returns-in-I386-clause-values c =
    subst (λ k. HandsOn k (prototype c.args.method.now) c.args.target c.args.cells.now c.forward_call-in-I386.new.machine.frame) (sym c.in-I386.is) c.forward_call-in-I386.ensures.values

pub returns-in-Aapcs64-clause-values : goal.returns-in-Aapcs64-clause-values
returns-in-Aapcs64-clause-values c =
    subst (λ k. HandsOn k (prototype c.args.method.now) c.args.target c.args.cells.now c.forward_call-in-Aapcs64.new.machine.frame) (sym c.in-Aapcs64.is) c.forward_call-in-Aapcs64.ensures.values

pub returns-in-Ms64-clause-values : goal.returns-in-Ms64-clause-values
returns-in-Ms64-clause-values c =
    subst (λ k. HandsOn k (prototype c.args.method.now) c.args.target c.args.cells.now c.forward_call-in-Ms64.new.machine.frame) (sym c.in-Ms64.is) c.forward_call-in-Ms64.ensures.values

pub returns-in-Aapcs32-clause-values : goal.returns-in-Aapcs32-clause-values
returns-in-Aapcs32-clause-values c =
    subst (λ k. HandsOn k (prototype c.args.method.now) c.args.target c.args.cells.now c.forward_call-in-Aapcs32.new.machine.frame) (sym c.in-Aapcs32.is) c.forward_call-in-Aapcs32.ensures.values
