use Rattle.std.proofs.Common.{◌∙◌, slice_get}
use Rattle.prototype_lowering.specs.Lowering.{iface_of}
use Rattle.prototype_lowering.proofs.LoweredLists.{found_more, none_more}
use Rattle.prototype_lowering.proofs.interfaces.lower_ifaces.Goals as goal
use Rattle.prototype_lowering.proofs.interfaces.lower_ifaces.Goals.{in-Some+in_ok-lower_iface-in-Some+in_ok-push-in-Some, in-None}

pub loop-number-preserved : goal.loop-number-preserved
loop-number-preserved c =
    elim c.match-get.branch [
      | in-Some+in_ok-lower_iface-in-Some+in_ok-push-in-Some w ↦ λ d numbered.
          found_more (iface_of d) (slice_get c.args.ifaces.now) c.args.order.now
          c.loop-number.number-index c.loop-number.lowered c.match-get.lowered w.in-Some.iface.now
          w.in_ok-lower_iface-in-Some.field-0 c.loop-number-test.true
          (c.loop-number.invariant d numbered) w.in-Some.ensures.value
          (w.in_ok-lower_iface-in-Some.ensures d numbered)
          (w.lowered-is ∙ w.in_ok-push-in-Some.ensures.ok)
      | in-None w ↦ λ d numbered. none_more (iface_of d) (slice_get c.args.ifaces.now)
          c.args.order.now c.loop-number.number-index c.loop-number.lowered c.match-get.lowered
          c.loop-number-test.true (c.loop-number.invariant d numbered) w.in-None.ensures.value
          w.lowered-is
    ]
