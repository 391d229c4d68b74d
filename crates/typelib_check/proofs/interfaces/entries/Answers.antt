use Rattle.std.proofs.Common.{◌≡◌, ◌+◌, ap, arith}
use Rattle.typelib_faults.specs.declared.cursor.Cursor.{Cursor}
use Rattle.typelib_faults.specs.Faults.{entry_fault, entry_next}
use Rattle.typelib_faults.proofs.WalkFacts.{left_next}
use Rattle.typelib_check.proofs.interfaces.entries.Goals as goal

pub loop-preserved : goal.loop-preserved
loop-preserved c =
    let x = c.args.file.now.bytes.now in
    let place : c.in_ok-next.next.place ≡ c.loop.at.place + 28 = ap (λ (s : Cursor). s.place) c.in_ok-next.ensures.1 in
    (left_next (entry_fault x) (entry_next x) _ c.loop.invariant.0 (omega (arith, c.args.file.now.count_is)) c.in_ok-next.ensures.0 c.in_ok-next.ensures.1, omega (arith, place, c.loop.invariant.1))
