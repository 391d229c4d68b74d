use Rattle.std.proofs.Common.{◌≡◌, ◌+◌, ◌<◌, suc, Some, None, sym, subst, ap, arith, ◌∙◌}
use Rattle.std.specs.Option.{option_copied}
use Rattle.proxy_objects.specs.Forwarding.{HasDepth, forward_of}
use Rattle.proxy_objects.proofs.Ways.{no-more, one-more}
use Rattle.proxy_objects.proofs.forwards.Forwards.depth.Goals as goal

pub loop-forward-preserved : goal.loop-forward-preserved
loop-forward-preserved c =
    let known = c.self.inside.by_object.entries in let inv = c.loop-forward.invariant in let w = c.in-Some.forward.now in
    let is : forward_of known c.loop-forward.at ≡ Some w = sym c.get.ensures.value ∙ ap option_copied c.in-Some.is in
    let lower : w.target < c.loop-forward.at = c.self.invariant.below c.loop-forward.at w is in
    record {
      way = λ rest has. let one : c.loop-forward.count + suc rest ≡ c.loop-forward.count + 1 + rest = omega arith in
          subst (HasDepth known c.args.object) one (inv.way (suc rest) (one-more known c.loop-forward.at w rest is has));
      down = omega (arith, inv.down, lower);
    }

pub returns-clause-count : goal.returns-clause-count
returns-clause-count c =
    let known = c.self.inside.by_object.entries in
    let is : forward_of known c.loop-forward.at ≡ None = sym c.get.ensures.value ∙ ap option_copied c.in_default.is in
    let none : c.loop-forward.count + 0 ≡ c.loop-forward.count = omega arith in
    let way : HasDepth known c.args.object c.loop-forward.count = subst (HasDepth known c.args.object) none (c.loop-forward.invariant.way 0 (no-more known c.loop-forward.at is)) in
    subst (λ k. HasDepth k c.args.object c.loop-forward.count) c.self.view_is way

pub returns-clause-most : goal.returns-clause-most
returns-clause-most c =
    let known = c.self.inside.by_object.entries in
    let is : forward_of known c.loop-forward.at ≡ None = sym c.get.ensures.value ∙ ap option_copied c.in_default.is in
    let none : c.loop-forward.count + 0 ≡ c.loop-forward.count = omega arith in
    c.self.invariant.few c.args.object c.loop-forward.count (subst (HasDepth known c.args.object) none (c.loop-forward.invariant.way 0 (no-more known c.loop-forward.at is)))
