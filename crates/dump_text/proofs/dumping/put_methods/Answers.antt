use Rattle.std.proofs.Common.{ap, ◌∙◌}
use Rattle.std.specs.List.{flat_map}
use Rattle.dump_text.proofs.IfaceLaws.{slot_line}
use Rattle.dump_text.proofs.WriteLaws.{begun, finished, handed_on, step_cut, step_on}
use Rattle.dump_text.proofs.dumping.put_methods.Goals as goal

pub loop-method-init : goal.loop-method-init
loop-method-init g c =
    begun _ _ _ _ (ap (flat_map slot_line) (c.into_iter-method-iterator.ensures.into_iter_gives ∙ c.methods-method-items.ensures.items))

pub loop-method-preserved : goal.loop-method-preserved
loop-method-preserved g c =
    step_on (flat_map slot_line c.next.new.self) c.loop-method.invariant (ap (flat_map slot_line) c.in-Some.ensures.steps) (c.in_ok-put_line.ensures _ c.method_line.ensures)

pub returns-in_err-put_line : goal.returns-in_err-put_line
returns-in_err-put_line g c =
    handed_on c.from_residual.result c.from_residual.ensures.1
    (step_cut (flat_map slot_line c.next.new.self) c.loop-method.invariant (ap (flat_map slot_line) c.in-Some.ensures.steps) (c.in_err-put_line.ensures _ c.method_line.ensures))

pub returns : goal.returns
returns g c = finished tt (ap (flat_map slot_line) c.in-None.ensures.steps.0) c.loop-method.invariant
