use Rattle.std.proofs.Common.{◌≡◌, ◌∙◌, is_some, None, Some, Ok, Err, IfOk, ap, refl, subst, sym}
use Rattle.std.specs.Prelude.{option_and_then}
use Rattle.lib_model.specs.Table.{table_of}
use Rattle.transcript_text.specs.declared.refusals.Refusal.TheVariants as refusal
use Rattle.call_replies.specs.Blocks.{Block}
use Rattle.script_meaning.specs.Lawful.{IsLawful}
use Rattle.script_meaning.specs.Members.{as_object, member_named, object_of}
use Rattle.script_meaning.specs.State.{named, number_in, ruled, with_rule}
use Rattle.script_meaning.specs.Step.{done, misformed_item, new_rule}
use Rattle.script_meaning.proofs.Lawfulness.{rule-keeps}
use Rattle.script_members.specs.Remembered.{shown}
use Rattle.script_objects.specs.Known.{forward_in}
use Rattle.script_objects.proofs.Depths.{numbered-so}
use Rattle.script_stage.specs.Finding.{Finds, IsNumberOf, named_object}
use Rattle.script_stage.specs.Standing.{TellsDone}
use Rattle.script_stage.proofs.Doing.{does-refused}
use Rattle.script_stage.proofs.Ruled.{hands-on, rule-form, rule-made, rule-member, rule-object, rule-proxy, rule-unknown, rule-unnamed}
use Rattle.script_stage.proofs.Targets.{named-none, named-some}
use Rattle.script_stage.proofs.stages.Stage.add_rule.Goals as goal

pub returns-then-is_none : goal.returns-then-is_none
returns-then-is_none c = (
  refl,
  λ state stands. rule-unnamed (table_of c.args.typelib.now) state c.args.name.now c.args.member.now c.args.items.now
      (named-none (named state c.args.name.now)
      (ap is_some (sym (c.named.ensures state stands)) ∙ c.if-is_none.ensures)),
)

pub returns-in_default : goal.returns-in_default
returns-in_default c = (
  refl,
  λ state stands.
      let b = named-some (named state c.args.name.now)
      (ap is_some (sym (c.named.ensures state stands)) ∙ c.if-is_none.ensures) in
      rule-unknown (table_of c.args.typelib.now) state c.args.name.now c.args.member.now c.args.items.now b.block b.is
      (sym (c.in_ok-rule.ensures state stands) ∙ c.in_default.is),
)

pub returns-in_err-found : goal.returns-in_err-found
returns-in_err-found c =
    let table = table_of c.args.typelib.now in
    let name = c.args.name.now in
    let member = c.args.member.now in
    let items = c.args.items.now in
    does-refused TellsDone (λ state. new_rule table state name member items) c.args.self.now
    c.from_residual-in_err-found.result c.in_err-found.field-0.0 c.from_residual-in_err-found.ensures.1
    (λ state stands.
    let b = named-some (named state name)
    (ap is_some (sym (c.named.ensures state stands)) ∙ c.if-is_none.ensures) in
    rule-member table state name member items b.block b.is c.in-Some.rule
    (sym (c.in_ok-rule.ensures state stands) ∙ c.in-Some.is) c.in_err-found.field-0.0
    (ap (λ l. member_named (table_of l) member) (sym c.requires.library) ∙ c.in_err-found.ensures.member))

pub returns-in-Some-misformed_item : goal.returns-in-Some-misformed_item
returns-in-Some-misformed_item c = (
  refl,
  λ state stands.
      let table = table_of c.args.typelib.now in
      let name = c.args.name.now in
      let member = c.args.member.now in
      let rule = c.in-Some.rule in
      let m = shown c.in_ok-found.found.now in
      let b = named-some (named state name)
      (ap is_some (sym (c.named.ensures state stands)) ∙ c.if-is_none.ensures) in
      let meant : member_named table member ≡ Ok m =
      ap (λ l. member_named (table_of l) member) (sym c.requires.library) ∙ c.in_ok-found.ensures.member in
      let bad : misformed_item m rule ≡ Some c.in-Some-misformed_item.item =
      ap (misformed_item m) (sym c.as_slice.ensures) ∙ sym c.misformed_item.ensures ∙ c.in-Some-misformed_item.is in
      rule-form table state name member c.args.items.now b.block b.is rule
      (sym (c.in_ok-rule.ensures state stands) ∙ c.in-Some.is) m meant c.in-Some-misformed_item.item bad
      ∙ ap (λ k. Err (refusal.Form k)) (sym c.in_ok-told_number.ensures),
)

pub returns-in_err-object : goal.returns-in_err-object
returns-in_err-object c =
    let table = table_of c.args.typelib.now in
    let name = c.args.name.now in
    let member = c.args.member.now in
    let items = c.args.items.now in
    does-refused TellsDone (λ state. new_rule table state name member items) c.args.self.now
    c.from_residual-in_err-object.result c.in_err-object.field-0.0 c.from_residual-in_err-object.ensures.1
    (λ state stands.
    let rule = c.in-Some.rule in
    let m = shown c.in_ok-found.found.now in
    let b = named-some (named state name)
    (ap is_some (sym (c.named.ensures state stands)) ∙ c.if-is_none.ensures) in
    let meant : member_named table member ≡ Ok m =
    ap (λ l. member_named (table_of l) member) (sym c.requires.library) ∙ c.in_ok-found.ensures.member in
    let formed : misformed_item m rule ≡ None =
    ap (misformed_item m) (sym c.as_slice.ensures) ∙ sym c.misformed_item.ensures ∙ c.in_default-misformed_item.is in
    let fails : object_of table m.iface (as_object b.block) ≡ Err c.in_err-object.field-0.0 =
    ap (λ o. object_of table m.iface (option_and_then as_object o)) (sym b.is)
    ∙ subst (Finds state (object_of table m.iface (named_object state name))) c.in_err-object.was
    (c.object_named.ensures state stands) in
    rule-object table state name member items b.block b.is rule
    (sym (c.in_ok-rule.ensures state stands) ∙ c.in-Some.is) m meant formed c.in_err-object.field-0.0 fails)

pub returns-then-is_some : goal.returns-then-is_some
returns-then-is_some c = (
  refl,
  λ state stands.
      let old = c.args.self.now in
      let table = table_of c.args.typelib.now in
      let name = c.args.name.now in
      let member = c.args.member.now in
      let rule = c.in-Some.rule in
      let m = shown c.in_ok-found.found.now in
      let b = named-some (named state name)
      (ap is_some (sym (c.named.ensures state stands)) ∙ c.if-is_none.ensures) in
      let meant : member_named table member ≡ Ok m =
      ap (λ l. member_named (table_of l) member) (sym c.requires.library) ∙ c.in_ok-found.ensures.member in
      let formed : misformed_item m rule ≡ None =
      ap (misformed_item m) (sym c.as_slice.ensures) ∙ sym c.misformed_item.ensures ∙ c.in_default-misformed_item.is in
      let found : IsNumberOf state (object_of table m.iface (named_object state name)) c.in_ok-object.object =
      subst (Finds state (object_of table m.iface (named_object state name))) c.in_ok-object.was
      (c.object_named.ensures state stands) in
      let has : object_of table m.iface (as_object b.block) ≡ Ok found.object =
      ap (λ o. object_of table m.iface (option_and_then as_object o)) (sym b.is) ∙ found.is in
      let forward : c.forward.result ≡ forward_in found.object.held =
      c.forward.ensures.known old.machine.conv state.blocks stands.lawful.blocks stands.objects
      ∙ ap (option_and_then (λ (o : Block). forward_in o.held)) found.numbered in
      rule-proxy table state name member c.args.items.now b.block b.is rule
      (sym (c.in_ok-rule.ensures state stands) ∙ c.in-Some.is) m meant formed found.object has
      (sym (hands-on found.object.held) ∙ ap is_some (sym forward) ∙ sym c.if-is_some.ensures),
)

pub returns : goal.returns
returns c = λ state stands.
    let old = c.args.self.now in
    let conv = old.machine.conv in
    let table = table_of c.args.typelib.now in
    let name = c.args.name.now in
    let member = c.args.member.now in
    let items = c.args.items.now in
    let rule = c.in-Some.rule in
    let m = shown c.in_ok-found.found.now in
    let b = named-some (named state name)
    (ap is_some (sym (c.named.ensures state stands)) ∙ c.if-is_none.ensures) in
    let meant : member_named table member ≡ Ok m =
    ap (λ l. member_named (table_of l) member) (sym c.requires.library) ∙ c.in_ok-found.ensures.member in
    let formed : misformed_item m rule ≡ None =
    ap (misformed_item m) (sym c.as_slice.ensures) ∙ sym c.misformed_item.ensures ∙ c.in_default-misformed_item.is in
    let found : IsNumberOf state (object_of table m.iface (named_object state name)) c.in_ok-object.object =
    subst (Finds state (object_of table m.iface (named_object state name))) c.in_ok-object.was
    (c.object_named.ensures state stands) in
    let object = found.object in
    let has : object_of table m.iface (as_object b.block) ≡ Ok object =
    ap (λ o. object_of table m.iface (option_and_then as_object o)) (sym b.is) ∙ found.is in
    let forward : c.forward.result ≡ forward_in object.held =
    c.forward.ensures.known conv state.blocks stands.lawful.blocks stands.objects
    ∙ ap (option_and_then (λ (o : Block). forward_in o.held)) found.numbered in
    let is : new_rule table state name member items ≡ Ok (done (with_rule state (number_in object.held) m.slot rule)) =
    rule-made table state name member items b.block b.is rule
    (sym (c.in_ok-rule.ensures state stands) ∙ c.in-Some.is) m meant formed object has
    (sym (hands-on object.held) ∙ ap is_some (sym forward) ∙ sym c.if-is_some.ensures) in
    let lawful : IsLawful conv (with_rule state (number_in object.held) m.slot rule) =
    subst (λ r. IfOk r (λ stepped. IsLawful conv stepped.state)) is
    (rule-keeps conv state stands.lawful table name member items) in
    let number : c.in_ok-object.object ≡ number_in object.held =
    sym (numbered-so state.blocks stands.lawful.blocks.down c.in_ok-object.object object found.numbered).0 in
    record {
      stepped = done (with_rule state (number_in object.held) m.slot rule);
      is = is;
      stands = record {
        lawful = lawful;
        holds = stands.holds;
        cells = stands.cells;
        blocks = stands.blocks;
        variables = stands.variables;
        objects = stands.objects;
        rules = c.in_ok-put.ensures.ok ∙ (λ j. ruled (stands.rules j) (number j) (c.slot.ensures j) rule);
        context = stands.context;
      };
      conv = refl;
      tells = refl;
      quiet = refl;
    }
