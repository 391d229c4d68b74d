use Rattle.std.proofs.Common.{◌∙◌, ap}
use Rattle.std.specs.Prelude.{Err}
use Rattle.std.proofs.lemmas.Result.{err_from_is_err_and}
use Rattle.idl_lexer.proofs.ChainLaws.{one_list}
use Rattle.idl_lexer.proofs.LexLaws.{one_reading, tokens-count, tokens-each, tokens-in_order, memory_given}
use Rattle.idl_lexer.proofs.lexer.lex.Goals as goal

pub returns-in_err-list-clause-given : goal.returns-in_err-list-clause-given
returns-in_err-list-clause-given c =
    let p = err_from_is_err_and c.from_residual.result c.from_residual.ensures.1 in
    memory_given c.args.source.now c.from_residual.result c.in_err-list.field-0.0 (p.1 ∙ ap (λ e. Err e) p.2) c.in_err-list.ensures.refused

pub returns-in_err-list-clause-one_reading : goal.returns-in_err-list-clause-one_reading
returns-in_err-list-clause-one_reading c = one_reading c.args.source.now

pub returns-in_err-source-clause-one_reading : goal.returns-in_err-source-clause-one_reading
returns-in_err-source-clause-one_reading c = one_reading c.args.source.now

pub returns-clause-in_order : goal.returns-clause-in_order
returns-clause-in_order c = tokens-in_order c.args.source.now c.in_ok-list.list c.in_ok-list.ensures.tokens

pub returns-clause-few : goal.returns-clause-few
returns-clause-few c = tokens-count c.args.source.now c.in_ok-list.list c.in_ok-list.ensures.tokens

pub returns-clause-each : goal.returns-clause-each
returns-clause-each c = tokens-each c.args.source.now c.in_ok-list.list c.in_ok-list.ensures.tokens

pub returns-clause-given : goal.returns-clause-given
returns-clause-given c ts a = one_list c.args.source.now c.in_ok-list.list ts c.in_ok-list.ensures.tokens a

pub returns-clause-one_reading : goal.returns-clause-one_reading
returns-clause-one_reading c = one_reading c.args.source.now
