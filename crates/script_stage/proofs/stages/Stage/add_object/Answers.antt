use Rattle.std.proofs.Common.{◌≡◌, ◌<◌, ◌≤◌, ◌∙◌, ◌+◌, ◌++◌, ◌∷◌, [], false, is_some, Err, IfOk, ap, refl, subst, sym, arith}
use Rattle.std.specs.Prelude.{codes}
use Rattle.lib_model.specs.Table.{table_of}
use Rattle.object_memory.specs.declared.layout.TheConstants.{HEAP_LIMIT}
use Rattle.object_memory.specs.Heap.{HoldsMore, Object as ObjectContent}
use Rattle.object_memory.specs.Memory.{MachineView, occupied}
use Rattle.transcript_text.specs.Texts.{ended}
use Rattle.xp_base.specs.Digits.{hex_digits}
use Rattle.call_replies.specs.Blocks.{Object}
use Rattle.script_meaning.specs.Lawful.{IsLawful}
use Rattle.script_meaning.specs.State.{learned, next_at, next_number, occupied_by, with_block}
use Rattle.script_meaning.specs.Step.{new_object, placed_block}
use Rattle.script_meaning.proofs.Lawfulness.{object-keeps}
use Rattle.script_objects.specs.Known.{AreKnown}
use Rattle.script_objects.proofs.Kept.{objects-few}
use Rattle.script_stage.specs.declared.placed.Kind.TheVariants as kinds
use Rattle.script_stage.specs.declared.stages.Stage.{Stage}
use Rattle.script_stage.specs.Standing.{TellsAddress, known, noted_as}
use Rattle.script_stage.proofs.Added.{end-is, none-noted, not_full, occupied-is, stands-more}
use Rattle.script_stage.proofs.Counted.{known-count, machine-count, object-full, object-made, object-taken, object-unknown}
use Rattle.script_stage.proofs.Doing.{does-full}
use Rattle.script_stage.proofs.stages.Stage.add_object.Goals as goal

pub returns-then-is_some : goal.returns-then-is_some
returns-then-is_some c = (
  refl,
  λ state stands. object-taken (table_of c.args.typelib.now) c.args.self.now.machine.conv state c.args.name.now
      c.args.iface.now (ap is_some (sym (c.named.ensures state stands)) ∙ sym c.if-is_some.ensures),
)

pub returns-in_default : goal.returns-in_default
returns-in_default c = (
  refl,
  λ state stands. object-unknown (table_of c.args.typelib.now) c.args.self.now.machine.conv state c.args.name.now
      c.args.iface.now (ap is_some (sym (c.named.ensures state stands)) ∙ sym c.if-is_some.ensures)
      (sym c.find.ensures ∙ c.in_default.is),
)

pub returns-in_err-at : goal.returns-in_err-at
returns-in_err-at c =
    let old = c.args.self.now in
    let table = table_of c.args.typelib.now in
    let name = c.args.name.now in
    let iface = c.args.iface.now in
    does-full TellsAddress (λ state. new_object table old.machine.conv state name iface) old
    (record old { machine = c.add_object.new.self }) c.from_residual.result c.in_err-at.field-0.0
    c.from_residual.ensures.1
    (λ none. (
      ap (λ (m : MachineView). record old { machine = m }) c.in_err-at.ensures.err,
      λ state stands.
          let over : HEAP_LIMIT < occupied old.machine + 16 = c.add_object.ensures.full.0 (c.in_err-at.was ∙ ap Err none) in
          object-full table old.machine.conv state name iface c.in-Some.iface
          (ap is_some (sym (c.named.ensures state stands)) ∙ sym c.if-is_some.ensures)
          (sym c.find.ensures ∙ c.in-Some.is)
          (omega (arith, over, occupied-is old.machine state.blocks stands.holds)),
    ))

pub add-requires : goal.add-requires
add-requires c =
    let old = c.args.self.now in
    let state = c.requires.0 in
    let stands = c.requires.1 in
    record {
      few = omega (arith, objects-few old.machine.conv old.objects state.blocks stands.lawful.blocks stands.objects);
    }

pub returns : goal.returns
returns c = λ state stands.
    let old = c.args.self.now in
    let conv = old.machine.conv in
    let table = table_of c.args.typelib.now in
    let name = c.args.name.now in
    let iface = c.in-Some.iface in
    let new : Stage = record {
      machine = c.add_object.new.self;
      blocks = c.put.new.self;
      variables = old.variables;
      objects = c.add.new.self;
      rules = old.rules;
      context = old.context;
    } in
    let free : is_some (noted_as state name) ≡ false =
    ap is_some (sym (c.named.ensures state stands)) ∙ sym c.if-is_some.ensures in
    let room : occupied_by conv state.blocks + 16 ≤ HEAP_LIMIT =
    omega (
      arith,
      not_full c.in_ok-at.at _ _ c.in_ok-at.ensures.full,
      occupied-is old.machine state.blocks stands.holds,
    ) in
    let is = object-made table conv state name c.args.iface.now iface free (sym c.find.ensures ∙ c.in-Some.is) room in
    let lawful : IsLawful conv (with_block conv state name (Object (next_number state) iface)) =
    subst (λ r. IfOk r (λ stepped. IsLawful conv stepped.state)) is
    (object-keeps conv state stands.lawful table name c.args.iface.now) in
    let at : c.in_ok-at.at ≡ next_at conv state =
    c.in_ok-at.ensures.address ∙ end-is old.machine state.blocks stands.holds in
    let number : c.in_ok-number.number ≡ next_number state =
    c.in_ok-number.ensures.number ∙ known-count conv old.objects state stands.objects in
    let more : HoldsMore old.machine new.machine (ObjectContent (next_number state)) =
    subst (λ n. HoldsMore old.machine new.machine (ObjectContent n)) (machine-count old.machine state stands.holds)
    c.in_ok-at.ensures.holds in
    let objects : AreKnown conv new.objects (with_block conv state name (Object (next_number state) iface)).blocks =
    subst (λ a. AreKnown conv new.objects
    (state.blocks ++ record { name = name; at = a; held = Object (next_number state) iface } ∷ [])) at
    (subst (λ n. AreKnown conv new.objects
    (state.blocks ++ record { name = name; at = c.in_ok-at.at; held = Object n iface } ∷ [])) number
    (c.in_ok-number.ensures.known conv state.blocks stands.objects tt name)) in
    let same : known new.blocks ≡ learned (known old.blocks) name _ =
    c.in_ok-put.ensures.ok
    ∙ (λ j. learned (known old.blocks) name (record { at = at j; kind = kinds.Object (number j) iface })) in
    record {
      stepped = placed_block conv state name (Object (next_number state) iface);
      is = is;
      stands = stands-more old new state stands name (Object (next_number state) iface)
          (ap (λ (m : MachineView). m.conv) c.in_ok-at.ensures.added)
          more
          (ap (λ (m : MachineView). m.cells) c.in_ok-at.ensures.added)
          same refl objects refl refl (none-noted (noted_as state name) free) lawful;
      conv = ap (λ (m : MachineView). m.conv) c.in_ok-at.ensures.added;
      tells = ap (λ k. ended (codes "at " ++ hex_digits k)) (sym at);
      quiet = refl;
    }
