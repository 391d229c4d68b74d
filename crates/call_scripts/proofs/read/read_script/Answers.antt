use Rattle.std.proofs.Common.{Ok, ap, sym, ◌∙◌, inl}
use Rattle.std.specs.Str.Lines.{lines}
use Rattle.std.proofs.lemmas.Option.{none-some}
use Rattle.call_scripts.proofs.Laws.{front_only, front_unread, front_whole}
use Rattle.call_scripts.proofs.read.read_script.Goals as goal

pub returns-in-None-clause-ok : goal.returns-in-None-clause-ok
returns-in-None-clause-ok c =
    front_whole 1 (lines c.args.bytes.now) c.in_ok-script.field-0.script.lines (rw c.in-None.is at c.in_ok-script.ensures)

pub returns-in-None-clause-only : goal.returns-in-None-clause-only
returns-in-None-clause-only c =
    λ script is. inl (ap Ok (ap (λ all. record { lines = all }) (front_only 1 (lines c.args.bytes.now) script.lines c.in_ok-script.field-0.script.lines c.in_ok-script.field-0.fault is c.in_ok-script.ensures).0))

pub returns-in-Some-clause-only : goal.returns-in-Some-clause-only
returns-in-Some-clause-only c =
    λ script is. absurd (none-some c.in-Some.line (sym (front_only 1 (lines c.args.bytes.now) script.lines c.in_ok-script.field-0.script.lines c.in_ok-script.field-0.fault is c.in_ok-script.ensures).1 ∙ c.in-Some.is))

pub returns-in-Some-clause-err : goal.returns-in-Some-clause-err
returns-in-Some-clause-err c =
    front_unread 1 (lines c.args.bytes.now) c.in_ok-script.field-0.script.lines c.in-Some.line (rw c.in-Some.is at c.in_ok-script.ensures)
