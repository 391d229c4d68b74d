use Rattle.std.proofs.Common.{Err, ap, refl}
use Rattle.std.proofs.lemmas.Result.{err_from_is_err_and}
use Rattle.xpcall_run.specs.Sides.{output_of, reads_of, shown_of, side_of}
use Rattle.xpcall_run.proofs.CallLaws.{call_comes, script_stops, typelib_stops}
use Rattle.xpcall_run.proofs.Firsts.{stopped_first, unwritten_first}
use Rattle.xpcall_run.proofs.calls.call.Goals as goal

pub returns-in_err-lib-clause-err : goal.returns-in_err-lib-clause-err
returns-in_err-lib-clause-err g c =
    let p = err_from_is_err_and c.from_residual-in_err-lib.result c.from_residual-in_err-lib.ensures.1 in
    let reads = reads_of g.S.Source.files g.S.Source.faults c.args.files.now c.fetch_both.new.files in
    let out = output_of (side_of g.O.Sink.written g.O.Sink.faults c.args.out.now c.args.out.now) (shown_of g.B.Bench.seen c.args.bench.now c.args.bench.now) in
    let refused = rw c.as_slice.ensures at c.in_err-lib.ensures.err in
    rw (p.1, p.2) (stopped_first _ reads out _ (record { sink = refl; bench = refl }) (typelib_stops c.args.conv reads _ _ _ _ _ c.in_ok-found.ensures.both refused))

pub returns-in_err-lines-clause-err : goal.returns-in_err-lines-clause-err
returns-in_err-lines-clause-err g c =
    let p = err_from_is_err_and c.from_residual-in_err-lines.result c.from_residual-in_err-lines.ensures.1 in
    let reads = reads_of g.S.Source.files g.S.Source.faults c.args.files.now c.fetch_both.new.files in
    let out = output_of (side_of g.O.Sink.written g.O.Sink.faults c.args.out.now c.args.out.now) (shown_of g.B.Bench.seen c.args.bench.now c.args.bench.now) in
    let denoted = rw c.as_slice.ensures at c.in_ok-lib.ensures.ok in
    let refused = rw c.as_slice-2.ensures at c.in_err-lines.ensures.err in
    rw (p.1, p.2) (stopped_first _ reads out _ (record { sink = refl; bench = refl }) (script_stops c.args.conv reads _ _ _ _ _ _ c.in_ok-found.ensures.both denoted refused))

pub returns-in_err-play-clause-err : goal.returns-in_err-play-clause-err
returns-in_err-play-clause-err g c =
    let p = err_from_is_err_and c.from_residual-in_err-play.result c.from_residual-in_err-play.ensures.1 in
    let reads = reads_of g.S.Source.files g.S.Source.faults c.args.files.now c.fetch_both.new.files in
    let out = output_of (side_of g.O.Sink.written g.O.Sink.faults c.args.out.now c.play.new.out) (shown_of g.B.Bench.seen c.args.bench.now c.play.new.bench) in
    let denoted = rw c.as_slice.ensures at c.in_ok-lib.ensures.ok in
    let spelled = rw c.as_slice-2.ensures at c.in_ok-lines.ensures.ok in
    let comes = call_comes c.args.conv reads.files _ _ _ _ _ _ c.in_ok-found.ensures.both denoted spelled in
    rw (p.1, p.2) (unwritten_first _ reads out _ _ comes c.in_err-play.ensures.err (λ sank. c.in_err-play.ensures.cause (ap Err sank)))

pub returns-clause-ok : goal.returns-clause-ok
returns-clause-ok g c =
    let denoted = rw c.as_slice.ensures at c.in_ok-lib.ensures.ok in
    let spelled = rw c.as_slice-2.ensures at c.in_ok-lines.ensures.ok in
    record {
      given = _;
      comes = call_comes c.args.conv _ _ _ _ _ _ _ c.in_ok-found.ensures.both denoted spelled;
      got = c.in_ok-play.ensures.ok;
    }

pub returns-in_err-found-clause-err : goal.returns-in_err-found-clause-err
returns-in_err-found-clause-err g c =
    let p = err_from_is_err_and c.from_residual.result c.from_residual.ensures.1 in
    let reads = reads_of g.S.Source.files g.S.Source.faults c.args.files.now c.fetch_both.new.files in
    let out = output_of (side_of g.O.Sink.written g.O.Sink.faults c.args.out.now c.args.out.now) (shown_of g.B.Bench.seen c.args.bench.now c.args.bench.now) in
    rw (p.1, p.2) (stopped_first _ reads out _ (record { sink = refl; bench = refl }) (c.in_err-found.ensures.err c.args.conv))
