use Rattle.std.proofs.Common.{◌∙◌, ap, sym}
use Rattle.std.specs.Prelude.{is_some}
use Rattle.object_memory.specs.Memory.{entry_at}
use Rattle.begun_calls.proofs.TheObject.{has-entry, is-kept}
use Rattle.begun_calls.proofs.calls.call_object.Goals as goal

pub address_of-this-requires : goal.address_of-this-requires
address_of-this-requires c =
    let object = c.requires.object in
    ap is_some (is-kept c.args.machine.now c.args.objects.now object.0 c.args.number object.1.0 object.1.1)

pub invoke_under-entry-requires-clause-entry : goal.invoke_under-entry-requires-clause-entry
invoke_under-entry-requires-clause-entry c =
    let m = c.args.machine.now in
    let object = c.requires.object in
    let on = object.1.1 in
    let slot = c.args.method.now.slot in
    ap (λ a. is_some (entry_at m a slot)) (c.address_of-this.ensures m.conv object.0 object.1.0 on.lawful on.known on.is)
    ∙ ap is_some (has-entry m c.args.objects.now object.0 c.args.number object.1.0 on slot c.requires.slot)

pub returns-clause-entry : goal.returns-clause-entry
returns-clause-entry c = λ blocks b on.
    let m = c.args.machine.now in
    ap (λ a. entry_at m a c.args.method.now.slot) (sym (c.address_of-this.ensures m.conv blocks b on.lawful on.known on.is))
    ∙ c.invoke_under-entry.ensures.entry
