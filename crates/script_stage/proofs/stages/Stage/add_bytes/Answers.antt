use Rattle.std.proofs.Common.{◌≡◌, ◌<◌, ◌≤◌, ◌∙◌, ◌+◌, length, is_some, false, Err, IfOk, ap, refl, subst, sym, arith}
use Rattle.call_scripts.specs.declared.script.Fill.TheVariants.{Given}
use Rattle.object_memory.specs.declared.layout.TheConstants.{HEAP_LIMIT}
use Rattle.object_memory.specs.Layout.{space_for}
use Rattle.object_memory.specs.Memory.{MachineView, occupied}
use Rattle.transcript_text.specs.Texts.{ended}
use Rattle.xp_base.specs.Digits.{hex_digits}
use Rattle.std.specs.Prelude.{codes, ◌++◌}
use Rattle.call_replies.specs.Blocks.{Data}
use Rattle.script_meaning.specs.Lawful.{IsLawful}
use Rattle.script_meaning.specs.State.{learned, next_at, occupied_by, with_block}
use Rattle.script_meaning.specs.Step.{new_data, placed_block}
use Rattle.script_meaning.proofs.Lawfulness.{data-keeps}
use Rattle.script_objects.proofs.Kept.{data-adds-none}
use Rattle.script_stage.specs.declared.placed.Kind.TheVariants as kinds
use Rattle.script_stage.specs.declared.stages.Stage.{Stage}
use Rattle.script_stage.specs.Standing.{TellsAddress, known, noted_as}
use Rattle.script_stage.proofs.Added.{end-is, full, made, none-noted, not_full, occupied-is, stands-more, taken}
use Rattle.script_stage.proofs.Doing.{does-full}
use Rattle.script_stage.proofs.stages.Stage.add_bytes.Goals as goal

pub returns-then-is_some : goal.returns-then-is_some
returns-then-is_some c = (
  refl,
  λ state stands. taken c.args.self.now.machine.conv state c.args.name.now (Given c.args.bytes.now)
      (ap is_some (sym (c.named.ensures state stands)) ∙ sym c.if-is_some.ensures),
)

pub returns-in_err-at : goal.returns-in_err-at
returns-in_err-at c =
    let old = c.args.self.now in
    let name = c.args.name.now in
    let bytes = c.args.bytes.now in
    does-full TellsAddress (λ state. new_data old.machine.conv state name (Given bytes)) old
    (record old { machine = c.add_block.new.self }) c.from_residual.result c.in_err-at.field-0.0
    c.from_residual.ensures.1
    (λ none. (
      ap (λ (m : MachineView). record old { machine = m }) c.in_err-at.ensures.err,
      λ state stands.
          let over : HEAP_LIMIT < occupied old.machine + space_for (length bytes) =
          c.add_block.ensures.full.0 (c.in_err-at.was ∙ ap Err none) in
          full old.machine.conv state name (Given bytes)
          (ap is_some (sym (c.named.ensures state stands)) ∙ sym c.if-is_some.ensures)
          (omega (arith, over, occupied-is old.machine state.blocks stands.holds)),
    ))

pub returns : goal.returns
returns c = λ state stands.
    let old = c.args.self.now in
    let conv = old.machine.conv in
    let name = c.args.name.now in
    let bytes = c.args.bytes.now in
    let new : Stage = record {
      machine = c.add_block.new.self;
      blocks = c.put.new.self;
      variables = old.variables;
      objects = old.objects;
      rules = old.rules;
      context = old.context;
    } in
    let free : is_some (noted_as state name) ≡ false =
    ap is_some (sym (c.named.ensures state stands)) ∙ sym c.if-is_some.ensures in
    let room : occupied_by conv state.blocks + space_for (length bytes) ≤ HEAP_LIMIT =
    omega (
      arith,
      not_full c.in_ok-at.at _ _ c.in_ok-at.ensures.full,
      occupied-is old.machine state.blocks stands.holds,
    ) in
    let is = made conv state name (Given bytes) free room in
    let lawful : IsLawful conv (with_block conv state name (Data bytes)) =
    subst (λ r. IfOk r (λ stepped. IsLawful conv stepped.state)) is
    (data-keeps conv state stands.lawful name (Given bytes)) in
    let at = c.in_ok-at.ensures.address ∙ end-is old.machine state.blocks stands.holds in
    let same : known new.blocks ≡ learned (known old.blocks) name _ =
    c.in_ok-put.ensures.ok
    ∙ ap (λ k. learned (known old.blocks) name (record { at = k; kind = kinds.Data (length bytes) })) at in
    record {
      stepped = placed_block conv state name (Data bytes);
      is = is;
      stands = stands-more old new state stands name (Data bytes)
          (ap (λ (m : MachineView). m.conv) c.in_ok-at.ensures.added)
          c.in_ok-at.ensures.holds
          (ap (λ (m : MachineView). m.cells) c.in_ok-at.ensures.added)
          same refl
          (data-adds-none conv old.objects state.blocks stands.objects name (next_at conv state) bytes) refl refl
          (none-noted (noted_as state name) free) lawful;
      conv = ap (λ (m : MachineView). m.conv) c.in_ok-at.ensures.added;
      tells = ap (λ k. ended (codes "at " ++ hex_digits k)) (sym at);
      quiet = refl;
    }
