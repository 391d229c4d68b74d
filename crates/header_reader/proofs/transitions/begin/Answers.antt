use Rattle.header_reader.proofs.NameSets.{unheard}
use Rattle.header_reader.proofs.transitions.begin.Goals as goal

pub add-requires : goal.add-requires
add-requires c = unheard _ c.args.decls c.args.decl.name _ c.requires.known c.as_slice.ensures c.requires.fresh
