use Rattle.std.proofs.Common.{◌≡◌, ◌-◌, ℕ, List, false, length, sym, subst, arith, below_more}
use Rattle.idl_meaning.specs.declared.scope.ScopeIface.{ScopeIface}
use Rattle.vtable_layout.specs.Layout.{CountsOwn, has_too_many}
use Rattle.vtable_layout.specs.Slots.{inherited, slots_of}
use Rattle.vtable_layout.proofs.Climbing.{Fits, counted, few_slots, first_own, one_pushed}
use Rattle.vtable_layout.proofs.slot_layout.layout.Goals as goal

pub overflow_sub-slots : goal.overflow_sub-slots
overflow_sub-slots c =
    let fits : Fits c.args.scope.now.ifaces c.loop-number.number c.in-Some.slots =
    counted c.args.scope.now.ifaces c.loop-number.number c.in-Some.slots (sym c.in-Some.ensures)
    in let own : CountsOwn c.args.scope.now.ifaces c.in_ok-counts.counts =
    let P : List ScopeIface → Type 0 =
    λ is. CountsOwn is c.in_ok-counts.counts
    in subst P c.as_slice.ensures c.in_ok-counts.ensures
    in omega (
      arith,
      c.count_at.ensures,
      own c.loop-number.number,
      first_own c.args.scope.now.ifaces
          c.loop-number.number c.in-Some.slots fits,
    )

pub loop-number-preserved : goal.loop-number-preserved
loop-number-preserved c =
    let ifaces = c.args.scope.now.ifaces
    in let fits : Fits ifaces c.loop-number.number c.in-Some.slots =
    counted ifaces c.loop-number.number c.in-Some.slots (sym c.in-Some.ensures)
    in let own : CountsOwn ifaces c.in_ok-counts.counts = let P : List ScopeIface → Type 0 =
    λ is. CountsOwn is c.in_ok-counts.counts
    in subst P c.as_slice.ensures c.in_ok-counts.ensures
    in let first : c.in-Some.slots - c.count_at.result
    ≡ length (inherited ifaces c.loop-number.number) =
    omega (
      arith,
      c.count_at.ensures,
      own c.loop-number.number,
      fits.total,
      few_slots ifaces
          c.loop-number.number fits.few,
      first_own ifaces c.loop-number.number c.in-Some.slots fits,
    )
    in record {
      first = one_pushed (λ k. length (inherited ifaces k)) c.loop-number.number
          (c.in-Some.slots - c.count_at.result) c.loop-number.first c.push.new.self
          c.loop-number.invariant.first c.in_ok-push.ensures.ok first;
      total = one_pushed (λ k. length (slots_of ifaces k)) c.loop-number.number c.in-Some.slots
          c.loop-number.total c.push-in-loop-number.new.self c.loop-number.invariant.total
          c.in_ok-push-2.ensures.ok fits.total;
      few = below_more (λ (k : ℕ). has_too_many ifaces k ≡ false) c.loop-number.number
          c.loop-number.invariant.few fits.few;
    }
