use Rattle.std.proofs.Common.{◌∙◌, subst}
use Rattle.std.proofs.lemmas.Result.{err_from_is_err_and}
use Rattle.call_model.specs.declared.places.Conv.TheVariants.{SysV64, I386, Aapcs64}
use Rattle.xp_base.specs.Files.{Files}
use Rattle.xpcall_run.specs.BigWork.{WritesCallsLine}
use Rattle.xpcall_run.proofs.BigLaws.{AreCallFiles, AreIdlFiles, calls_are_refused, summary_written}
use Rattle.xpcall_run.proofs.bigs.summary_of.Goals as goal

pub returns-in_err-called-clause-err : goal.returns-in_err-called-clause-err
returns-in_err-called-clause-err c =
    let p = err_from_is_err_and c.from_residual-in_err-called.result c.from_residual-in_err-called.ensures.1 in
    let first : AreIdlFiles c.args.last c.add.new.self =
    rw (c.new-files.ensures, c.as_slice.ensures, c.in_ok-idl_text.ensures) at c.in_ok-add.ensures.ok in
    let second = rw (c.in_ok-typelib.ensures.same_files, first, c.written.ensures) at c.in_ok-add-2.ensures.ok in
    let files : AreCallFiles c.args.last c.in_ok-typelib.typelib c.add-3.new.self =
    rw (second, c.as_slice-2.ensures, c.in_ok-script_text.ensures) at c.in_ok-add-3.ensures.ok in
    rw (p.1, p.2) (calls_are_refused c.args.last c.add.new.self c.add-3.new.self c.in_ok-typelib.typelib SysV64 _ first c.in_ok-typelib.ensures.ok (files) c.in_err-called.ensures.err)

pub returns-in_err-called-2-clause-err : goal.returns-in_err-called-2-clause-err
returns-in_err-called-2-clause-err c =
    let p = err_from_is_err_and c.from_residual-in_err-called-2.result c.from_residual-in_err-called-2.ensures.1 in
    let first : AreIdlFiles c.args.last c.add.new.self =
    rw (c.new-files.ensures, c.as_slice.ensures, c.in_ok-idl_text.ensures) at c.in_ok-add.ensures.ok in
    let second = rw (c.in_ok-typelib.ensures.same_files, first, c.written.ensures) at c.in_ok-add-2.ensures.ok in
    let files : AreCallFiles c.args.last c.in_ok-typelib.typelib c.add-3.new.self =
    rw (second, c.as_slice-2.ensures, c.in_ok-script_text.ensures) at c.in_ok-add-3.ensures.ok in
    rw (p.1, p.2) (calls_are_refused c.args.last c.add.new.self c.called.new.files c.in_ok-typelib.typelib I386 _ first c.in_ok-typelib.ensures.ok (c.in_ok-called.ensures.same_files ∙ files) c.in_err-called-2.ensures.err)

pub returns-in_err-called-3-clause-err : goal.returns-in_err-called-3-clause-err
returns-in_err-called-3-clause-err c =
    let p = err_from_is_err_and c.from_residual-in_err-called-3.result c.from_residual-in_err-called-3.ensures.1 in
    let first : AreIdlFiles c.args.last c.add.new.self =
    rw (c.new-files.ensures, c.as_slice.ensures, c.in_ok-idl_text.ensures) at c.in_ok-add.ensures.ok in
    let second = rw (c.in_ok-typelib.ensures.same_files, first, c.written.ensures) at c.in_ok-add-2.ensures.ok in
    let files : AreCallFiles c.args.last c.in_ok-typelib.typelib c.add-3.new.self =
    rw (second, c.as_slice-2.ensures, c.in_ok-script_text.ensures) at c.in_ok-add-3.ensures.ok in
    rw (p.1, p.2) (calls_are_refused c.args.last c.add.new.self c.called-2.new.files c.in_ok-typelib.typelib Aapcs64 _ first c.in_ok-typelib.ensures.ok (c.in_ok-called-2.ensures.same_files ∙ (c.in_ok-called.ensures.same_files ∙ files)) c.in_err-called-3.ensures.err)

pub returns-in_err-append-2-clause-err : goal.returns-in_err-append-2-clause-err
returns-in_err-append-2-clause-err c =
    let p = err_from_is_err_and c.from_residual-in_err-append-2.result c.from_residual-in_err-append-2.ensures.1 in
    rw (p.1, p.2) tt

pub returns-clause-ok : goal.returns-clause-ok
returns-clause-ok c =
    let first : AreIdlFiles c.args.last c.add.new.self =
    rw (c.new-files.ensures, c.as_slice.ensures, c.in_ok-idl_text.ensures) at c.in_ok-add.ensures.ok in
    let second = rw (c.in_ok-typelib.ensures.same_files, first, c.written.ensures) at c.in_ok-add-2.ensures.ok in
    let files : AreCallFiles c.args.last c.in_ok-typelib.typelib c.add-3.new.self =
    rw (second, c.as_slice-2.ensures, c.in_ok-script_text.ensures) at c.in_ok-add-3.ensures.ok in
    let same = c.in_ok-called.ensures.same_files in
    let still = c.in_ok-called-2.ensures.same_files ∙ same in
    let i386 = subst (λ (x : Files). WritesCallsLine c.args.last I386 x c.in_ok-called-2.field-0) same c.in_ok-called-2.ensures.ok in
    let aapcs64 = subst (λ (x : Files). WritesCallsLine c.args.last Aapcs64 x c.in_ok-called-3.field-0) still c.in_ok-called-3.ensures.ok in
    summary_written c.args.last c.add.new.self c.add-3.new.self c.in_ok-typelib.typelib
    c.in_ok-called.field-0 c.in_ok-called-2.field-0 c.in_ok-called-3.field-0 c.append-3.new.self
    first c.in_ok-typelib.ensures.ok files c.in_ok-called.ensures.ok i386 aapcs64
    (rw (c.in_ok-append-2.ensures.ok, c.in_ok-append.ensures.ok, c.in_ok-summary.ensures, c.written-2.ensures, c.as_slice-3.ensures, c.as_slice-4.ensures, c.as_slice-5.ensures) at c.in_ok-append-3.ensures.ok)
