use Rattle.idl_lexer.specs.Parts.{is_key, keys}
use Rattle.idl_lexer.proofs.part.is_key.Goals as goal

pub returns : goal.returns
unfolding is_key keys
returns c = c.contains.ensures
