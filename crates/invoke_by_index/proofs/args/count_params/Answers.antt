use Rattle.std.proofs.Common.{sym, ◌∙◌}
use Rattle.lib_model.specs.Table.{status_of}
use Rattle.invoke_by_index.proofs.Parameters.{length-callable}
use Rattle.invoke_by_index.proofs.args.count_params.Goals as goal

pub returns-in-Callable-clause-count : goal.returns-in-Callable-clause-count
returns-in-Callable-clause-count c =
    c.param_count.ensures.count ∙ length-callable c.args.method.now.method (status_of c.args.method.now.method) (sym c.status.ensures ∙ c.in-Callable.is)
