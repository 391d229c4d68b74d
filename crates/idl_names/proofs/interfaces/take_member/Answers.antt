use Rattle.std.proofs.Common.{sym, ◌∙◌}
use Rattle.idl_meaning.specs.Faults.{codes_at, Within}
use Rattle.idl_names.specs.Tables.{known}
use Rattle.idl_names.specs.Views.{inside_with}
use Rattle.idl_names.proofs.Lists.{first-with, none_first}
use Rattle.idl_names.proofs.interfaces.take_member.Goals as goal

pub returns-in-Some-clause-fault : goal.returns-in-Some-clause-fault
returns-in-Some-clause-fault c =
    first-with c.args.place.file c.args.place.decl c.args.place.number c.in-Some.code
    (codes_at (Within (inside_with c.args.around.now (known c.args.taken.now.own)) c.args.member.now.body))
    (sym c.in_ok-code.ensures ∙ c.in-Some.is)

pub returns-in_ok-push-clause-none : goal.returns-in_ok-push-clause-none
returns-in_ok-push-clause-none c =
    none_first (codes_at (Within (inside_with c.args.around.now (known c.args.taken.now.own)) c.args.member.now.body)) (sym c.in_ok-code.ensures ∙ c.in_default.is)

pub returns-in_default-2-clause-none : goal.returns-in_default-2-clause-none
returns-in_default-2-clause-none c =
    none_first (codes_at (Within (inside_with c.args.around.now (known c.args.taken.now.own)) c.args.member.now.body)) (sym c.in_ok-code.ensures ∙ c.in_default.is)
