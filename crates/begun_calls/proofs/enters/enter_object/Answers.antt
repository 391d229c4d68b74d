use Rattle.std.proofs.Common.{◌∙◌, ap, refl, sym}
use Rattle.std.specs.Prelude.{is_some}
use Rattle.object_memory.specs.Lends.{with_frame}
use Rattle.object_memory.specs.Memory.{entry_at}
use Rattle.script_meaning.specs.Enters.{entered_frame}
use Rattle.begun_calls.proofs.TheObject.{has-entry, is-kept}
use Rattle.begun_calls.proofs.enters.enter_object.Goals as goal

pub address_of-this-requires : goal.address_of-this-requires
address_of-this-requires c =
    let object = c.requires.object in
    ap is_some (is-kept c.args.machine.now c.args.objects.now object.0 c.args.number object.1.0 object.1.1)

pub unwrap-entry-requires : goal.unwrap-entry-requires
unwrap-entry-requires c =
    let m = c.args.machine.now in
    let object = c.requires.object in
    let on = object.1.1 in
    let at = c.address_of-this.ensures m.conv object.0 object.1.0 on.lawful on.known on.is in
    ap is_some
    (c.slot_entry.ensures.loaded
    ∙ (λ i. entry_at m (at i) (c.slot.ensures i))
    ∙ has-entry m c.args.objects.now object.0 c.args.number object.1.0 on c.args.method.now.slot c.requires.slot)

pub returns : goal.returns
returns c = λ blocks b on.
    let m = c.args.machine.now in
    let at = c.address_of-this.ensures m.conv blocks b on.lawful on.known on.is in
    record {
      frame = ap (with_frame m)
          (c.enter_frame.ensures ∙ (λ i. entered_frame (c.conv-conv.ensures i) (at i) c.args.items.now));
      entry = (λ i. entry_at m (sym at i) (sym c.slot.ensures i))
          ∙ sym c.slot_entry.ensures.loaded
          ∙ c.unwrap-entry.ensures;
      number = refl;
      entered = refl;
    }
