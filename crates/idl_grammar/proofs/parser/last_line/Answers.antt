use Rattle.idl_grammar.proofs.Parsed.{last-line}
use Rattle.idl_grammar.proofs.parser.last_line.Goals as goal

pub returns-in-len1-up : goal.returns-in-len1-up
returns-in-len1-up c = last-line c.args.source.now c.args.tokens.now _ c.in-len1-up.len_at_least
