use Rattle.std.proofs.Common.{refl}
use Rattle.std.proofs.lemmas.Result.{err_from_is_err_and}
use Rattle.xpcall_run.specs.Sides.{output_of, reads_of, side_of}
use Rattle.xpcall_run.proofs.CompiledLaws.{typelib_comes}
use Rattle.xpcall_run.proofs.Firsts.{all_alone, failed_rose, some_alone, stopped_first, unwritten_first}
use Rattle.xpcall_run.proofs.compiles.compile.Goals as goal

pub returns-in_err-put_all-clause-err : goal.returns-in_err-put_all-clause-err
returns-in_err-put_all-clause-err g c = λ bench still.
    let p = err_from_is_err_and c.from_residual-in_err-put_all.result c.from_residual-in_err-put_all.ensures.1 in
    let reads = reads_of g.S.Source.files g.S.Source.faults c.args.files.now c.typelib_of.new.files in
    let out = output_of (side_of g.O.Sink.written g.O.Sink.faults c.args.out.now c.put_all.new.sink) bench in
    let got = rw c.as_slice.ensures at c.in_err-put_all.ensures.err in
    rw (p.1, p.2) (unwritten_first _ reads out _ _ (typelib_comes _ c.args.roots.now _ c.in_ok-typelib.ensures.ok) (some_alone out _ got still) (failed_rose _ _ _ c.in_err-put_all.ensures.cause))

pub returns-in_err-typelib-clause-err : goal.returns-in_err-typelib-clause-err
returns-in_err-typelib-clause-err g c = λ bench still.
    let p = err_from_is_err_and c.from_residual.result c.from_residual.ensures.1 in
    let reads = reads_of g.S.Source.files g.S.Source.faults c.args.files.now c.typelib_of.new.files in
    let out = output_of (side_of g.O.Sink.written g.O.Sink.faults c.args.out.now c.args.out.now) bench in
    rw (p.1, p.2) (stopped_first _ reads out _ (record { sink = refl; bench = still }) c.in_err-typelib.ensures.err)

pub returns-clause-ok : goal.returns-clause-ok
returns-clause-ok g c = λ bench still.
    let out = output_of (side_of g.O.Sink.written g.O.Sink.faults c.args.out.now c.put_all.new.sink) bench in
    let got = rw c.as_slice.ensures at c.in_ok-put_all.ensures.ok in
    record {
      given = _;
      comes = typelib_comes _ c.args.roots.now _ c.in_ok-typelib.ensures.ok;
      got = all_alone out _ got still;
    }
