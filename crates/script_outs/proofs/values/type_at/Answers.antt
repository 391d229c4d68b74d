use Rattle.std.proofs.Common.{sym, ◌∙◌}
use Rattle.invoke_by_index.specs.Methods.{prototype}
use Rattle.script_outs.proofs.Positions.{no-type, the-type}
use Rattle.script_outs.proofs.values.type_at.Goals as goal

pub returns-in-None : goal.returns-in-None
returns-in-None c = no-type (prototype c.args.method.now) c.args.k (sym c.arg.ensures ∙ c.in-None.is)

pub returns-in-Some : goal.returns-in-Some
returns-in-Some c =
    the-type (prototype c.args.method.now) c.args.k c.in-Some.arg (sym c.arg.ensures ∙ c.in-Some.is)
