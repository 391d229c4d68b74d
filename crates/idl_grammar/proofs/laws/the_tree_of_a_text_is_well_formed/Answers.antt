use Rattle.idl_grammar.proofs.TreeMade.{tree-made}
use Rattle.idl_grammar.proofs.laws.the_tree_of_a_text_is_well_formed.Goals as goal

pub returns : goal.returns
returns c = tree-made
