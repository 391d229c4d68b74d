use Rattle.std.proofs.Common.{◌∙◌}
use Rattle.xpcall_run.proofs.TextLaws.{typelib_line}
use Rattle.xpcall_run.proofs.reports.put_typelib_fault.Goals as goal

pub returns-clause-ok : goal.returns-clause-ok
returns-clause-ok g c =
    let same = typelib_line c.args.name.now c.args.code c.args.at c.as_slice.result.now (c.as_slice.ensures ∙ c.in_ok-said.ensures) in
    rw same at c.put_framed.ensures.ok

pub returns-clause-err : goal.returns-clause-err
returns-clause-err g c =
    let same = typelib_line c.args.name.now c.args.code c.args.at c.as_slice.result.now (c.as_slice.ensures ∙ c.in_ok-said.ensures) in
    rw same at c.put_framed.ensures.err
