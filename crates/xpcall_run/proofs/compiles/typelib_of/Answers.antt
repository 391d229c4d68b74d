use Rattle.std.proofs.lemmas.Result.{IfErr-weaker, err_from_is_err_and}
use Rattle.xpcall_run.specs.CompileWork.{RefusesFaults, WritesLibrary, library_work}
use Rattle.xpcall_run.specs.Sides.{reads_of}
use Rattle.xpcall_run.specs.Works.{Quietly}
use Rattle.xpcall_run.proofs.ClosureLaws.{closed_stops, first_closes}
use Rattle.xpcall_run.proofs.CompiledLaws.{typelib_made}
use Rattle.xpcall_run.proofs.compiles.typelib_of.Goals as goal

pub returns-in_err-closed-clause-err : goal.returns-in_err-closed-clause-err
returns-in_err-closed-clause-err g c =
    let p = err_from_is_err_and c.from_residual.result c.from_residual.ensures.1 in
    let reads = reads_of g.S.Source.files g.S.Source.faults c.args.files.now c.close.new.files in
    rw (p.1, p.2) (first_closes reads c.args.roots.now library_work _ c.in_err-closed.ensures.err)

pub returns-clause-ok : goal.returns-clause-ok
returns-clause-ok g c =
    typelib_made _ c.args.roots.now c.in_ok-closed.closed c.compile_files.result
    c.in_ok-closed.ensures.ok c.compile_files.ensures.ok c.compile_files.ensures.stands

pub returns-clause-err : goal.returns-clause-err
returns-clause-err g c =
    let reads = reads_of g.S.Source.files g.S.Source.faults c.args.files.now c.close.new.files in
    IfErr-weaker c.compile_files.result _ _
    (λ f why. closed_stops reads c.args.roots.now (λ files. Quietly (WritesLibrary files)) RefusesFaults _ f c.in_ok-closed.ensures.ok why)
    c.compile_files.ensures.err
