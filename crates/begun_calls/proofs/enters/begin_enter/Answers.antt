use Rattle.std.proofs.Common.{◌≡◌, ◌∙◌, is_some, None, Some, Err, ap, refl, subst, sym}
use Rattle.lib_model.specs.Table.{table_of}
use Rattle.object_memory.specs.Memory.{MachineView}
use Rattle.transcript_text.specs.declared.refusals.Refusal.TheVariants as refusal
use Rattle.script_meaning.specs.Enters.{misformed}
use Rattle.script_meaning.specs.State.{named}
use Rattle.script_members.specs.Remembered.{shown}
use Rattle.script_stage.proofs.Targets.{named-none, named-some}
use Rattle.begun_calls.specs.Calling.{IsAt, enter_begun}
use Rattle.begun_calls.proofs.Entered.{begins-refused, framed-at, has-enter, on-stage, refused-item, refused-name, refused-object, too-short}
use Rattle.begun_calls.proofs.enters.begin_enter.Goals as goal

pub returns-then-is_none : goal.returns-then-is_none
returns-then-is_none c = (
  refl,
  λ state at.
      let none = named-none (named state c.args.name.now)
      (ap is_some (sym (c.named.ensures state at.stands)) ∙ c.if-is_none.ensures) in (
        refused-name (table_of c.args.typelib.now) c.args.stage.now.machine.conv state c.args.name.now c.args.items.now
            (shown c.args.found.now) none,
        at,
      ),
)

pub returns-in-Some : goal.returns-in-Some
returns-in-Some c = (
  refl,
  λ state at.
      let b = named-some (named state c.args.name.now)
      (ap is_some (sym (c.named.ensures state at.stands)) ∙ c.if-is_none.ensures) in
      let item : misformed c.args.stage.now.machine.conv c.args.items.now ≡ Some c.in-Some.item =
      ap (λ k. misformed k c.args.items.now) (sym c.conv.ensures) ∙ sym c.misformed.ensures.first ∙ c.in-Some.is in (
        refused-item (table_of c.args.typelib.now) c.args.stage.now.machine.conv state c.args.name.now c.args.items.now
            (shown c.args.found.now) b.block b.is c.in-Some.item item
            ∙ ap (λ k. Err (refusal.Form k)) (sym c.in_ok-told_number.ensures.told),
        at,
      ),
)

pub returns-in_err-number : goal.returns-in_err-number
returns-in_err-number c =
    let table = table_of c.args.typelib.now in
    let stage = c.args.stage.now in
    let conv = stage.machine.conv in
    let m = shown c.args.found.now in
    let taken : misformed conv c.args.items.now ≡ None =
    ap (λ k. misformed k c.args.items.now) (sym c.conv.ensures) ∙ sym c.misformed.ensures.first ∙ c.in_default.is in
    begins-refused table (λ state. enter_begun table conv state c.args.name.now c.args.items.now m) stage stage
    c.args.found.now.method c.from_residual-in_err-number.result c.in_err-number.field-0.0 c.from_residual-in_err-number.ensures.1 (
      refl,
      λ state at.
          let b = named-some (named state c.args.name.now)
          (ap is_some (sym (c.named.ensures state at.stands)) ∙ c.if-is_none.ensures) in (
            refused-object table conv state c.args.name.now c.args.items.now m b.block b.is c.in_err-number.field-0.0 taken
                (c.in_err-number.ensures state at.stands),
            at,
          ),
    )

pub enter_object-begun-requires : goal.enter_object-begun-requires
enter_object-begun-requires c =
    let table = table_of c.args.typelib.now in
    let stage = c.args.stage.now in
    let state = c.requires.at.0 in
    let at = c.requires.at.1 in
    let found = c.in_ok-number.ensures state at.stands in
    record {
      object = (state.blocks, (found.object, on-stage table stage state at _ c.in_ok-number.number found));
      items = ap (λ k. misformed k c.args.items.now) (sym c.conv.ensures) ∙ sym c.misformed.ensures.first ∙ c.in_default.is;
      slot = c.requires.slot;
    }

pub returns-in_err-check_stack : goal.returns-in_err-check_stack
returns-in_err-check_stack c =
    let table = table_of c.args.typelib.now in
    let stage = c.args.stage.now in
    let conv = stage.machine.conv in
    let m = shown c.args.found.now in
    let after = c.enter_object-begun.new.machine in
    let taken : misformed conv c.args.items.now ≡ None =
    ap (λ k. misformed k c.args.items.now) (sym c.conv.ensures) ∙ sym c.misformed.ensures.first ∙ c.in_default.is in
    let first = c.requires.at in
    let found = c.in_ok-number.ensures first.0 first.1.stands in
    let has = c.enter_object-begun.ensures first.0.blocks found.object
    (on-stage table stage first.0 first.1 _ c.in_ok-number.number found) in
    begins-refused table (λ state. enter_begun table conv state c.args.name.now c.args.items.now m) stage
    (record stage { machine = after })
    c.args.found.now.method c.from_residual-in_err-check_stack.result c.in_err-check_stack.field-0.0
    c.from_residual-in_err-check_stack.ensures.1 (
      ap (λ (k : MachineView). k.conv) has.frame,
      λ state at.
          let b = named-some (named state c.args.name.now)
          (ap is_some (sym (c.named.ensures state at.stands)) ∙ c.if-is_none.ensures) in
          let object = c.in_ok-number.ensures state at.stands in
          let left = c.enter_object-begun.ensures state.blocks object.object
          (on-stage table stage state at _ c.in_ok-number.number object) in (
            too-short c.args.typelib.now c.iface_count.ensures.valid c.requires.member.0 c.args.found.now c.requires.member.1 c.requires.slot
                stage state at c.args.name.now c.args.items.now c.in_ok-number.number object taken b.block b.is after
                c.in_err-check_stack.field-0.0 left.frame c.in_err-check_stack.ensures,
            subst (λ k. IsAt table (record stage { machine = k }) state) (sym left.frame)
                (framed-at table stage state at _),
          ),
    )

pub returns : goal.returns
returns c = λ state at.
    let table = table_of c.args.typelib.now in
    let stage = c.args.stage.now in
    let taken : misformed stage.machine.conv c.args.items.now ≡ None =
    ap (λ k. misformed k c.args.items.now) (sym c.conv.ensures) ∙ sym c.misformed.ensures.first ∙ c.in_default.is in
    let b = named-some (named state c.args.name.now)
    (ap is_some (sym (c.named.ensures state at.stands)) ∙ c.if-is_none.ensures) in
    let object = c.in_ok-number.ensures state at.stands in
    let left = c.enter_object-begun.ensures state.blocks object.object
    (on-stage table stage state at _ c.in_ok-number.number object) in
    has-enter c.args.typelib.now c.iface_count.ensures.valid c.requires.member.0 c.args.found.now c.requires.member.1 c.requires.slot
    stage state at c.args.name.now c.args.items.now c.in_ok-number.number object taken b.block b.is
    c.enter_object-begun.new.machine c.enter_object-begun.result left c.in_ok-check_stack.ensures
