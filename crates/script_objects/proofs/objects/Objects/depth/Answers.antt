use Rattle.std.proofs.Common.{subst}
use Rattle.proxy_objects.specs.Forwarding.{HasDepth}
use Rattle.proxy_objects.proofs.Ways.{one_depth}
use Rattle.script_objects.specs.Known.{ObjectsView}
use Rattle.script_objects.proofs.Depths.{depth-is}
use Rattle.script_objects.proofs.objects.Objects.depth.Goals as goal

pub returns : goal.returns
returns c =
    let view = c.args.self.now in
    λ conv blocks lawful known by b found.
    one_depth view.forwards c.args.number c.depth.result _
    (subst (λ (v : ObjectsView). HasDepth v.forwards c.args.number c.depth.result) c.self.view_is c.depth.ensures.count)
    (depth-is conv view blocks lawful known by c.args.number b found)
