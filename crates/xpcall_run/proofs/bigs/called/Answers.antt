use Rattle.std.proofs.lemmas.Result.{err_from_is_err_and}
use Rattle.xpcall_run.specs.Works.{Written}
use Rattle.xpcall_run.proofs.BigLaws.{call_named, call_stops, calm_refused, gained_all, never}
use Rattle.xpcall_run.proofs.bigs.called.Goals as goal

pub returns-in_err-call-clause-err : goal.returns-in_err-call-clause-err
returns-in_err-call-clause-err c =
    let p = err_from_is_err_and c.from_residual-in_err-call.result c.from_residual-in_err-call.ensures.1 in
    let refused = calm_refused _ _ _ _ never never c.in_err-call.ensures.err in
    rw (p.1, p.2) (call_stops c.args.conv c.in_ok-typelib.typelib c.in_ok-script.script c.args.files.now _ c.in_ok-typelib.ensures c.in_ok-script.ensures refused)

pub returns-clause-ok : goal.returns-clause-ok
returns-clause-ok c =
    let written = c.in_ok-call.ensures.ok in
    let text = gained_all c.new-transcript.result c.call.new.out written.given.text c.new-transcript.ensures written.got.0 in
    record {
      given = written.given;
      called = call_named c.args.conv c.in_ok-typelib.typelib c.in_ok-script.script c.args.files.now (Written written.given) c.in_ok-typelib.ensures c.in_ok-script.ensures written.comes;
      counted = rw (c.from.ensures, c.written.ensures, text) at c.in_ok-line.ensures;
    }
