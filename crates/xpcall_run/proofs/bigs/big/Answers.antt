use Rattle.std.proofs.Common.{refl}
use Rattle.std.proofs.lemmas.Result.{err_from_is_err_and}
use Rattle.xpcall_run.specs.Sides.{output_of, side_of}
use Rattle.xpcall_run.proofs.Firsts.{all_alone, failed_rose, some_alone, unwritten_first}
use Rattle.xpcall_run.proofs.bigs.big.Goals as goal

pub returns-in_err-put_all-clause-err : goal.returns-in_err-put_all-clause-err
returns-in_err-put_all-clause-err g c = λ reads bench still.
    let p = err_from_is_err_and c.from_residual-in_err-put_all.result c.from_residual-in_err-put_all.ensures.1 in
    let out = output_of (side_of g.O.Sink.written g.O.Sink.faults c.args.out.now c.put_all.new.sink) bench in
    let got = rw c.as_slice.ensures at c.in_err-put_all.ensures.err in
    rw (p.1, p.2) (unwritten_first _ reads out _ _ (c.in_ok-summary.ensures.ok, refl) (some_alone out _ got still) (failed_rose _ _ _ c.in_err-put_all.ensures.cause))

pub returns-clause-ok : goal.returns-clause-ok
returns-clause-ok g c = λ files bench still.
    let out = output_of (side_of g.O.Sink.written g.O.Sink.faults c.args.out.now c.put_all.new.sink) bench in
    let got = rw c.as_slice.ensures at c.in_ok-put_all.ensures.ok in
    record {
      given = _;
      comes = (c.in_ok-summary.ensures.ok, refl);
      got = all_alone out _ got still;
    }
