use Rattle.std.proofs.Common.{◌≡◌, ◌+◌, ◌<◌, ◌≤◌, length, Some, refl, arith, rules}
use Rattle.dump_text.proofs.ListingLaws.{lines_from, listing_begins, listing_ends, next_iface, view_is}
use Rattle.dump_text.proofs.WriteLaws.{begun, finished, handed_on, step_cut, step_on}
use Rattle.dump_text.proofs.dumping.dump.Goals as goal

pub returns-in_err-put_line : goal.returns-in_err-put_line
returns-in_err-put_line g c =
    let lib = c.args.lib.now in
    let writes = handed_on c.from_residual.result c.from_residual.ensures.1
    (step_cut (lines_from lib 0) (begun _ _ _ _ refl) (listing_begins lib c.iface_count-count.result c.iface_count-count.ensures.count) (c.in_err-put_line.ensures _ c.heading.ensures)) in
    record { text = writes.ok; err = writes.err; cause = writes.cause; blamed = writes.blamed; never_falls = writes.never_falls }

pub loop-before-init : goal.loop-before-init
loop-before-init g c =
    let lib = c.args.lib.now in
    step_on (lines_from lib 0) (begun _ _ _ _ refl) (listing_begins lib c.iface_count-count.result c.iface_count-count.ensures.count) (c.in_ok-put_line.ensures _ c.heading.ensures)

pub returns-in_err-put_iface : goal.returns-in_err-put_iface
returns-in_err-put_iface g c =
    let lib = c.args.lib.now in let before = c.loop-before.before in
    let below : before < length lib.ifaces = omega (arith, c.loop-before-test.true, c.iface_count-count.ensures.count) in
    let found : c.iface.result ≡ Some c.unwrap-iface.result = search rules in
    let next = next_iface lib before c.unwrap-iface.result below (view_is lib (before + 1) c.iface.result c.unwrap-iface.result (omega arith) (omega arith) c.iface.ensures found) in
    let writes = handed_on c.from_residual-in_err-put_iface.result c.from_residual-in_err-put_iface.ensures.1
    (step_cut (lines_from lib (before + 1)) c.loop-before.invariant next.2 (c.in_err-put_iface.ensures next.0 next.1)) in
    record { text = writes.ok; err = writes.err; cause = writes.cause; blamed = writes.blamed; never_falls = writes.never_falls }

pub loop-before-preserved : goal.loop-before-preserved
loop-before-preserved g c =
    let lib = c.args.lib.now in let before = c.loop-before.before in
    let below : before < length lib.ifaces = omega (arith, c.loop-before-test.true, c.iface_count-count.ensures.count) in
    let found : c.iface.result ≡ Some c.unwrap-iface.result = search rules in
    let next = next_iface lib before c.unwrap-iface.result below (view_is lib (before + 1) c.iface.result c.unwrap-iface.result (omega arith) (omega arith) c.iface.ensures found) in
    step_on (lines_from lib (before + 1)) c.loop-before.invariant next.2 (c.in_ok-put_iface.ensures next.0 next.1)

pub returns : goal.returns
returns g c =
    let lib = c.args.lib.now in
    let past : length lib.ifaces ≤ c.loop-before.before = omega (arith, c.loop-before-test.false, c.iface_count-count.ensures.count) in
    let writes = finished tt (listing_ends lib c.loop-before.before past) c.loop-before.invariant in
    record { text = writes.ok; err = writes.err; cause = writes.cause; blamed = writes.blamed; never_falls = writes.never_falls }
