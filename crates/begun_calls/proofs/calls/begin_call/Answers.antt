use Rattle.std.proofs.Common.{rules, ◌≡◌, ◌∙◌, ◌*◌, length, Err, ap, arith, subst, sym}
use Rattle.std.specs.Int.{w128}
use Rattle.std.proofs.lemmas.Int.{to_z-of_z}
use Rattle.invoke_by_index.specs.Methods.{prototype}
use Rattle.lib_model.specs.Table.{table_of}
use Rattle.object_memory.specs.declared.layout.TheConstants.{CELLS_AT}
use Rattle.object_memory.specs.Memory.{InCells, MachineView}
use Rattle.script_meaning.specs.Members.{object_of}
use Rattle.script_meaning.specs.State.{object_at}
use Rattle.script_members.specs.Remembered.{shown}
use Rattle.script_stage.specs.Finding.{IsNumberOf}
use Rattle.begun_calls.specs.Calling.{IsAt}
use Rattle.begun_calls.proofs.Begun.{has-call, on-filled, refused-object}
use Rattle.begun_calls.proofs.Pushed.{has-room, length-cells, popped-args}
use Rattle.begun_calls.proofs.calls.begin_call.Goals as goal

pub call_object-requires-clause-cells : goal.call_object-requires-clause-cells
call_object-requires-clause-cells c =
    let stage = c.args.stage.now in
    let proto = prototype c.args.found.now.method in
    subst (λ k. InCells k CELLS_AT (8 * length proto)) (sym c.in_ok-push_args.ensures.pushed)
    (has-room stage.machine stage.context proto c.args.args.now)

pub pop_cells-requires : goal.pop_cells-requires
pop_cells-requires c =
    let stage = c.args.stage.now in
    let proto = prototype c.args.found.now.method in
    omega (
      arith,
      ap (λ (k : MachineView). length k.cells) c.in_ok-push_args.ensures.pushed,
      length-cells stage.machine stage.context proto c.args.args.now,
      c.positions.ensures.length,
    )

pub returns-in-Ok : goal.returns-in-Ok
returns-in-Ok c = λ state at.
    let lib = c.args.typelib.now in
    let stage = c.args.stage.now in
    let found = c.args.found.now in
    let number = c.in-Ok.number in
    let asked = subst (λ t. IsNumberOf state (object_of (table_of lib) found.iface (object_at state t)) number)
    (to_z-of_z w128 c.args.this (search rules)) (c.in-Ok.ensures state at.stands) in
    let pushed = c.in_ok-push_args.ensures.pushed in
    let on = on-filled lib c.iface_count.ensures.valid c.requires.member.0 found c.requires.member.1 c.requires.slot
    stage state at c.args.this c.args.args.now number asked c.push_args.new.machine pushed in
    has-call lib c.iface_count.ensures.valid c.requires.member.0 found c.requires.member.1 c.requires.slot
    stage state at c.args.this c.args.args.now number asked c.push_args.new.machine c.call_object.new.machine c.call_object.result
    pushed c.in_ok-push_args.ensures.passes c.in_ok-push_args.ensures.laid_out
    (c.call_object.ensures.frame state.blocks asked.object on)
    (c.call_object.ensures.entry state.blocks asked.object on)
    c.call_object.ensures.number c.call_object.ensures.entered c.in_ok-push_args.ensures.fault

pub returns-in-Err : goal.returns-in-Err
returns-in-Err c =
    let lib = c.args.typelib.now in
    let stage = c.args.stage.now in
    let found = c.args.found.now in
    let back = c.pop_cells.ensures.popped
    ∙ popped-args stage.machine c.requires.at.1.stands.cells stage.context (prototype found.method) c.args.args.now
    c.positions.result c.positions.ensures.length c.push_args.new.machine c.in_ok-push_args.ensures.pushed in (
      ap (λ (k : MachineView). k.conv) back,
      λ state at.
          let none = subst (λ t. object_of (table_of lib) found.iface (object_at state t) ≡ Err c.in-Err.refusal)
          (to_z-of_z w128 c.args.this (search rules)) (c.in-Err.ensures state at.stands) in (
            refused-object (table_of lib) stage.machine.conv state c.args.this c.args.args.now (shown found) c.in-Err.refusal
                c.in_ok-push_args.ensures.fault none,
            subst (λ k. IsAt (table_of lib) (record stage { machine = k }) state) (sym back) at,
          ),
    )
