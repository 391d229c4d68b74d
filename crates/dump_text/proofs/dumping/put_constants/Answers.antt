use Rattle.std.proofs.Common.{ap, ◌∙◌}
use Rattle.std.specs.List.{flat_map}
use Rattle.dump_text.specs.Listing.{constant_line}
use Rattle.dump_text.proofs.WriteLaws.{begun, finished, handed_on, step_cut, step_on}
use Rattle.dump_text.proofs.dumping.put_constants.Goals as goal

pub loop-constant-init : goal.loop-constant-init
loop-constant-init g c =
    begun _ _ _ _ (ap (flat_map constant_line) (c.into_iter-constant-iterator.ensures.into_iter_gives ∙ c.constants-constant-items.ensures.items))

pub loop-constant-preserved : goal.loop-constant-preserved
loop-constant-preserved g c =
    step_on (flat_map constant_line c.next.new.self) c.loop-constant.invariant (ap (flat_map constant_line) c.in-Some.ensures.steps) (c.in_ok-put_line.ensures _ c.constant_line.ensures)

pub returns-in_err-put_line : goal.returns-in_err-put_line
returns-in_err-put_line g c =
    handed_on c.from_residual.result c.from_residual.ensures.1
    (step_cut (flat_map constant_line c.next.new.self) c.loop-constant.invariant (ap (flat_map constant_line) c.in-Some.ensures.steps) (c.in_err-put_line.ensures _ c.constant_line.ensures))

pub returns : goal.returns
returns g c = finished tt (ap (flat_map constant_line) c.in-None.ensures.steps.0) c.loop-constant.invariant
