use Rattle.std.proofs.Common.{◌∙◌}
use Rattle.idl_grammar.proofs.Sets.{any_next}
use Rattle.idl_grammar.proofs.cursor.Cursor.sees_any.Goals as goal

pub returns : goal.returns
returns c = c.sees_some.ensures ∙ any_next c.args.symbols.now c.args.self.now
