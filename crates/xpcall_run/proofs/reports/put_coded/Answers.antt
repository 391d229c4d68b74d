use Rattle.std.proofs.Common.{◌∙◌}
use Rattle.xpcall_run.proofs.TextLaws.{coded_line}
use Rattle.xpcall_run.proofs.reports.put_coded.Goals as goal

pub returns-clause-ok : goal.returns-clause-ok
returns-clause-ok g c =
    let same = coded_line c.args.name.now c.args.line c.args.code c.as_slice.result.now (c.as_slice.ensures ∙ c.in_ok-said.ensures) in
    rw same at c.put_numbered.ensures.ok

pub returns-clause-err : goal.returns-clause-err
returns-clause-err g c =
    let same = coded_line c.args.name.now c.args.line c.args.code c.as_slice.result.now (c.as_slice.ensures ∙ c.in_ok-said.ensures) in
    rw same at c.put_numbered.ensures.err
