use Rattle.std.proofs.Common.{◌≡◌, true, sym, subst, ap, ◌∙◌}
use Rattle.std.specs.Prelude.{IsSome}
use Rattle.object_memory.specs.Memory.{entry_at}
use Rattle.stub_dispatch.specs.Calls.{call_of}
use Rattle.script_calls.specs.Forwarders.{ForwarderView, can_hand_on}
use Rattle.script_calls.proofs.Handed.{hands-call-on, positions-and-entry, reacts-handed, reacts-refused}
use Rattle.script_calls.proofs.forwarder.ForwarderCallee.call_method.Goals as goal

pub returns-then-not-can_hand_on : goal.returns-then-not-can_hand_on
returns-then-not-can_hand_on c =
    let object = c.args._object in let cells = c.args.cells.now in
    reacts-refused c.args.self.now c.args.machine.now (call_of c.args.method.now object cells)
    (sym (c.can_hand_on.ensures object cells) ∙ c.if-not-can_hand_on.true)

pub forward_under-entry-requires-clause-entry : goal.forward_under-entry-requires-clause-entry
forward_under-entry-requires-clause-entry c =
    let call = call_of c.args.method.now c.args._object c.args.cells.now in
    let can : can_hand_on c.args.self.now c.args.machine.now call ≡ true = sym (c.can_hand_on.ensures c.args._object c.args.cells.now) ∙ c.if-not-can_hand_on.false in
    subst (λ t. IsSome (entry_at c.args.machine.now t c.args.method.now.slot)) (sym (ap (λ (f : ForwarderView). f.target) c.self.view_is))
    (positions-and-entry c.args.self.now c.args.machine.now call can).1

pub keep-requires : goal.keep-requires
keep-requires c =
    let call = call_of c.args.method.now c.args._object c.args.cells.now in
    let can : can_hand_on c.args.self.now c.args.machine.now call ≡ true = sym (c.can_hand_on.ensures c.args._object c.args.cells.now) ∙ c.if-not-can_hand_on.false in
    c.requires.cells.paired ∙ (positions-and-entry c.args.self.now c.args.machine.now call can).0

pub returns : goal.returns
returns c =
    let call = call_of c.args.method.now c.args._object c.args.cells.now in
    let can : can_hand_on c.args.self.now c.args.machine.now call ≡ true = sym (c.can_hand_on.ensures c.args._object c.args.cells.now) ∙ c.if-not-can_hand_on.false in
    let handed = c.forward_under-entry.ensures in let left = c.forward_under-entry.new.machine in
    reacts-handed c.args.self.now c.args.machine.now call c.keep.new.self left 0 can
    (hands-call-on c.args.self.now c.args.machine.now call c.keep.new.self left c.self.inside.conv c.self.inside.target c.forward_under-entry.result
    (ap (λ (f : ForwarderView). f.conv) c.self.view_is) (ap (λ (f : ForwarderView). f.target) c.self.view_is) handed.frame handed.values handed.entry c.keep.ensures)
