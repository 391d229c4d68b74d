use Rattle.idl_grammar.proofs.NativeLaws.{native-once}
use Rattle.idl_grammar.proofs.laws.a_native_has_one_name_and_one_text.Goals as goal

pub returns : goal.returns
returns c = native-once
