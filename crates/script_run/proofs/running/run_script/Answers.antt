-- The lines run from the empty state, on the machine that was handed in.
use Rattle.std.proofs.Common.{◌∙◌, ap, subst, sym}
use Rattle.call_replies.specs.Blocks.{HoldsBlocks}
use Rattle.object_memory.specs.Memory.{MachineView}
use Rattle.lib_model.specs.Table.{table_of}
use Rattle.lib_model.specs.Valid.{IsValid}
use Rattle.script_meaning.specs.State.{empty}
use Rattle.script_meaning.specs.Transcript.{end, sights, static}
use Rattle.script_run.proofs.Scripts.{at-start, on-err, on-new, on-ok}
use Rattle.script_run.proofs.running.run_script.Goals as goal

pub run_lines-ran-requires : goal.run_lines-ran-requires
run_lines-ran-requires g c =
    let runner = c.in_ok-runner.runner in
    let made = c.in_ok-runner.ensures in
    let stands = on-new c.args.machine.now.conv runner.stage c.swap.new.y (c.swap.ensures.y_after ∙ c.requires)
    (made.conv ∙ c.conv.ensures) made.stands in
    record {
      valid = subst IsValid (sym made.typelib) c.iface_count.ensures.valid;
      members = made.members ∙ sym made.typelib;
      at = (empty, at-start (table_of runner.typelib.now) _ stands);
    }

pub returns-clause-ok : goal.returns-clause-ok
unfolding static
returns-clause-ok g c =
    let stage = c.in_ok-runner.runner.stage in
    let conv = c.in_ok-runner.ensures.conv ∙ c.conv.ensures in
    let stands = on-new c.args.machine.now.conv stage c.args.machine.now c.requires conv c.in_ok-runner.ensures.stands in
    let at = at-start (table_of c.args.lib.now) _ stands in
    let ran = rw (c.swap.ensures.y_after, c.in_ok-runner.ensures.typelib, c.as_slice.ensures) at c.run_lines-ran.ensures.ran in
    on-ok c.run_lines-ran.result (ran empty at) (λ run. run.gained)

pub returns-clause-saw : goal.returns-clause-saw
unfolding sights
returns-clause-saw g c =
    let stage = c.in_ok-runner.runner.stage in
    let conv = c.in_ok-runner.ensures.conv ∙ c.conv.ensures in
    let stands = on-new c.args.machine.now.conv stage c.args.machine.now c.requires conv c.in_ok-runner.ensures.stands in
    let at = at-start (table_of c.args.lib.now) _ stands in
    let ran = rw (c.swap.ensures.y_after, c.in_ok-runner.ensures.typelib, c.as_slice.ensures) at c.run_lines-ran.ensures.ran in
    on-ok c.run_lines-ran.result (ran empty at) (λ run. run.saw)

pub returns-clause-holds : goal.returns-clause-holds
unfolding end
returns-clause-holds g c =
    let stage = c.in_ok-runner.runner.stage in
    let conv = c.in_ok-runner.ensures.conv ∙ c.conv.ensures in
    let stands = on-new c.args.machine.now.conv stage c.args.machine.now c.requires conv c.in_ok-runner.ensures.stands in
    let at = at-start (table_of c.args.lib.now) _ stands in
    let ran = rw (c.swap.ensures.y_after, c.in_ok-runner.ensures.typelib, c.as_slice.ensures) at c.run_lines-ran.ensures.ran in
    on-ok c.run_lines-ran.result (ran empty at)
    (λ run. subst (λ (m : MachineView). HoldsBlocks m (end (table_of c.args.lib.now) c.args.machine.now.conv c.args.script.now.lines).blocks) (sym c.swap-2.ensures.x_after) run.stands.holds)

pub returns-clause-popped : goal.returns-clause-popped
unfolding end
returns-clause-popped g c =
    let stage = c.in_ok-runner.runner.stage in
    let conv = c.in_ok-runner.ensures.conv ∙ c.conv.ensures in
    let stands = on-new c.args.machine.now.conv stage c.args.machine.now c.requires conv c.in_ok-runner.ensures.stands in
    let at = at-start (table_of c.args.lib.now) _ stands in
    let ran = rw (c.swap.ensures.y_after, c.in_ok-runner.ensures.typelib, c.as_slice.ensures) at c.run_lines-ran.ensures.ran in
    on-ok c.run_lines-ran.result (ran empty at)
    (λ run. ap (λ (m : MachineView). m.cells) c.swap-2.ensures.x_after ∙ run.stands.cells)

pub returns-clause-conv : goal.returns-clause-conv
returns-clause-conv g c =
    on-ok c.run_lines-ran.result c.run_lines-ran.ensures.stays
    (λ stays. ap (λ (m : MachineView). m.conv) c.swap-2.ensures.x_after
    ∙ stays.conv
    ∙ ap (λ (m : MachineView). m.conv) c.swap.ensures.y_after)

pub returns-clause-err : goal.returns-clause-err
unfolding static
returns-clause-err g c =
    let stage = c.in_ok-runner.runner.stage in
    let conv = c.in_ok-runner.ensures.conv ∙ c.conv.ensures in
    let stands = on-new c.args.machine.now.conv stage c.args.machine.now c.requires conv c.in_ok-runner.ensures.stands in
    let at = at-start (table_of c.args.lib.now) _ stands in
    let ran = rw (c.swap.ensures.y_after, c.in_ok-runner.ensures.typelib, c.as_slice.ensures) at c.run_lines-ran.ensures.cut in
    on-err c.run_lines-ran.result (ran empty at) (λ run. run.gained)

pub returns-clause-saw_some : goal.returns-clause-saw_some
unfolding sights
returns-clause-saw_some g c =
    let stage = c.in_ok-runner.runner.stage in
    let conv = c.in_ok-runner.ensures.conv ∙ c.conv.ensures in
    let stands = on-new c.args.machine.now.conv stage c.args.machine.now c.requires conv c.in_ok-runner.ensures.stands in
    let at = at-start (table_of c.args.lib.now) _ stands in
    let ran = rw (c.swap.ensures.y_after, c.in_ok-runner.ensures.typelib, c.as_slice.ensures) at c.run_lines-ran.ensures.cut in
    on-err c.run_lines-ran.result (ran empty at) (λ run. run.saw)
