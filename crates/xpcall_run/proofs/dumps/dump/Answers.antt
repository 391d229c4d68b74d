use Rattle.std.proofs.Common.{Err, ap, refl}
use Rattle.std.proofs.lemmas.Result.{err_from_is_err_and}
use Rattle.xp_base.specs.declared.limits.TheConstants.{MAX_TYPELIB}
use Rattle.xpcall_run.specs.Sides.{output_of, reads_of, side_of}
use Rattle.xpcall_run.specs.TypelibWork.{listing_work}
use Rattle.xpcall_run.proofs.Fetching.{first_stops}
use Rattle.xpcall_run.proofs.Firsts.{all_alone, some_alone, stopped_first, unwritten_first}
use Rattle.xpcall_run.proofs.TypelibLaws.{dump_comes, dump_stops}
use Rattle.xpcall_run.proofs.dumps.dump.Goals as goal

pub returns-in_err-bytes-clause-err : goal.returns-in_err-bytes-clause-err
returns-in_err-bytes-clause-err g c = λ bench still.
    let p = err_from_is_err_and c.from_residual.result c.from_residual.ensures.1 in
    let reads = reads_of g.S.Source.files g.S.Source.faults c.args.files.now c.fetch.new.files in
    let out = output_of (side_of g.O.Sink.written g.O.Sink.faults c.args.out.now c.args.out.now) bench in
    rw (p.1, p.2) (stopped_first _ reads out _ (record { sink = refl; bench = still }) (first_stops reads MAX_TYPELIB c.args.name.now (listing_work c.args.name.now) _ c.in_err-bytes.ensures.err))

pub returns-in_err-lib-clause-err : goal.returns-in_err-lib-clause-err
returns-in_err-lib-clause-err g c = λ bench still.
    let p = err_from_is_err_and c.from_residual-in_err-lib.result c.from_residual-in_err-lib.ensures.1 in
    let reads = reads_of g.S.Source.files g.S.Source.faults c.args.files.now c.fetch.new.files in
    let out = output_of (side_of g.O.Sink.written g.O.Sink.faults c.args.out.now c.args.out.now) bench in
    let refused = rw c.as_slice.ensures at c.in_err-lib.ensures.err in
    rw (p.1, p.2) (stopped_first _ reads out _ (record { sink = refl; bench = still }) (dump_stops reads _ _ _ c.in_ok-bytes.ensures.found c.in_ok-bytes.ensures.within refused))

pub returns-in_err-dump-clause-err : goal.returns-in_err-dump-clause-err
returns-in_err-dump-clause-err g c = λ bench still.
    let p = err_from_is_err_and c.from_residual-in_err-dump.result c.from_residual-in_err-dump.ensures.1 in
    let reads = reads_of g.S.Source.files g.S.Source.faults c.args.files.now c.fetch.new.files in
    let out = output_of (side_of g.O.Sink.written g.O.Sink.faults c.args.out.now c.dump.new.out) bench in
    let denoted = rw c.as_slice.ensures at c.in_ok-lib.ensures.ok in
    let comes = dump_comes reads.files _ _ _ c.in_ok-bytes.ensures.found c.in_ok-bytes.ensures.within denoted in
    rw (p.1, p.2) (unwritten_first _ reads out _ _ comes (some_alone out _ c.in_err-dump.ensures.err still) (λ sank. c.in_err-dump.ensures.cause (ap Err sank)))

pub returns-clause-ok : goal.returns-clause-ok
returns-clause-ok g c = λ bench still.
    let denoted = rw c.as_slice.ensures at c.in_ok-lib.ensures.ok in
    let out = output_of (side_of g.O.Sink.written g.O.Sink.faults c.args.out.now c.dump.new.out) bench in
    record {
      given = _;
      comes = dump_comes _ _ _ _ c.in_ok-bytes.ensures.found c.in_ok-bytes.ensures.within denoted;
      got = all_alone out _ c.in_ok-dump.ensures.text still;
    }
