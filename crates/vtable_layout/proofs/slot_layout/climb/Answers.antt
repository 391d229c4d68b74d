use Rattle.std.proofs.Common.{◌≡◌, ◌+◌, ◌-◌, ◌<◌, suc, length, sym, ◌∙◌, arith}
use Rattle.vtable_layout.specs.Slots.{own_of, parent_of}
use Rattle.vtable_layout.proofs.Climbing.{no_left, no_room, outcome, step, whole}
use Rattle.vtable_layout.proofs.slot_layout.climb.Goals as goal

pub returns-then-left-eq0 : goal.returns-then-left-eq0
returns-then-left-eq0 c =
    sym (no_left c.args.ifaces.now c.loop-at.total c.in-Some.here)
    ∙ (λ j. outcome c.args.ifaces.now (sym c.if-left-eq0.true j) c.loop-at.total
    (sym c.in-Some.is j))
    ∙ c.loop-at.invariant.same
    ∙ whole c.args.ifaces.now c.args.number

pub returns-then-total-gt-MAX_SLOTS : goal.returns-then-total-gt-MAX_SLOTS
returns-then-total-gt-MAX_SLOTS c =
    let left : suc (c.loop-at.left - 1) ≡ c.loop-at.left = omega arith
    in let past : 250 < c.loop-at.total + length (own_of c.args.ifaces.now c.in-Some.here) =
    omega (arith, c.count_at-total.ensures, c.requires c.in-Some.here)
    in sym (no_room c.args.ifaces.now (c.loop-at.left - 1)
    (c.loop-at.total + length (own_of c.args.ifaces.now c.in-Some.here))
    (parent_of c.args.ifaces.now c.in-Some.here) past)
    ∙ sym (step c.args.ifaces.now (c.loop-at.left - 1) c.loop-at.total c.in-Some.here)
    ∙ (λ j. outcome c.args.ifaces.now (left j) c.loop-at.total (sym c.in-Some.is j))
    ∙ c.loop-at.invariant.same
    ∙ whole c.args.ifaces.now c.args.number

pub loop-at-preserved : goal.loop-at-preserved
loop-at-preserved c =
    let left : suc (c.loop-at.left - 1) ≡ c.loop-at.left = omega arith
    in let total : c.loop-at.total + c.count_at-total.result
    ≡ c.loop-at.total + length (own_of c.args.ifaces.now c.in-Some.here) =
    omega (arith, c.count_at-total.ensures, c.requires c.in-Some.here)
    in record {
      same =
          (λ j. outcome c.args.ifaces.now (c.loop-at.left - 1) (total j) (c.parent_at-at.ensures j))
          ∙ sym (step c.args.ifaces.now (c.loop-at.left - 1) c.loop-at.total c.in-Some.here)
          ∙ (λ j. outcome c.args.ifaces.now (left j) c.loop-at.total (sym c.in-Some.is j))
          ∙ c.loop-at.invariant.same;
      few = omega arith;
    }
