use Rattle.idl_grammar.proofs.TreeMade.{tree-made}
use Rattle.idl_grammar.proofs.laws.a_lawful_file_is_well_formed.Goals as goal

pub returns : goal.returns
returns c tree lawful = tree-made lawful.bytes tree lawful.has
