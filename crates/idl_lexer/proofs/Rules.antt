-- The lemmas that functions name in their attributes.
use Rattle.idl_lexer.proofs.Basics.{and_then_some}
use Rattle.idl_lexer.proofs.KindLaws.{include-whole, whole-include, native-whole, whole-native}
use Rattle.idl_lexer.proofs.ReadLaws.{counted_short, counted_by_all, front_by_length, behind_by_length}

-- a reading whose last step gives what it was given
pub ruleset bind = (and_then_some)

-- so many bytes, of all of which a test is true
pub ruleset counts = (counted_short, counted_by_all)

-- where a run ends
pub ruleset runs = (front_by_length, behind_by_length)

-- what a test of a whole spelling says
pub ruleset wholes = (include-whole, whole-include, native-whole, whole-native)
