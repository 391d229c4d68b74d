use Rattle.std.proofs.lemmas.Result.{err_from_is_err_and}
use Rattle.xp_base.specs.declared.limits.TheConstants.{MAX_TEXT, MAX_TYPELIB}
use Rattle.xpcall_run.specs.CallWork.{play_work, script_work}
use Rattle.xpcall_run.specs.Sides.{reads_of}
use Rattle.xpcall_run.proofs.Fetching.{first_stops, later_stops, takes_stops}
use Rattle.xpcall_run.proofs.calls.fetch_both.Goals as goal

pub returns-in_err-typelib-clause-err : goal.returns-in_err-typelib-clause-err
returns-in_err-typelib-clause-err g c = λ conv.
    let p = err_from_is_err_and c.from_residual.result c.from_residual.ensures.1 in
    let m = c.args.typelib.now in
    let n = c.args.script.now in
    let reads = reads_of g.S.Source.files g.S.Source.faults c.args.files.now c.fetch.new.files in
    rw (p.1, p.2) (first_stops reads MAX_TYPELIB m (script_work conv m n) _ c.in_err-typelib.ensures.err)

pub returns-in_err-script-clause-err : goal.returns-in_err-script-clause-err
returns-in_err-script-clause-err g c = λ conv.
    let p = err_from_is_err_and c.from_residual-in_err-script.result c.from_residual-in_err-script.ensures.1 in
    let m = c.args.typelib.now in
    let n = c.args.script.now in
    let x = c.in_ok-typelib.typelib in
    let first = reads_of g.S.Source.files g.S.Source.faults c.args.files.now c.fetch-2.new.files in
    let second = reads_of g.S.Source.files g.S.Source.faults c.fetch.new.files c.fetch-2.new.files in
    let stopped = first_stops second MAX_TEXT n (play_work conv m n x) _ c.in_err-script.ensures.err in
    let later = later_stops (script_work conv m n x) _ _ _ _ _ _ c.in_ok-typelib.ensures.same_files c.in_ok-typelib.ensures.never_falls stopped in
    rw (p.1, p.2) (takes_stops first MAX_TYPELIB m x (script_work conv m n) _ c.in_ok-typelib.ensures.found c.in_ok-typelib.ensures.within later)
