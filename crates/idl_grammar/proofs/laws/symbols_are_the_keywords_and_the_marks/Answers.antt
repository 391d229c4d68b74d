use Rattle.idl_grammar.proofs.Tables.{is_key-no_other, is_mark-no_other, key-is, mark-is}
use Rattle.idl_grammar.proofs.laws.symbols_are_the_keywords_and_the_marks.Goals as goal

pub returns : goal.returns
returns c =
    record { keys = key-is; no_other_key = is_key-no_other; marks = mark-is; no_other_mark = is_mark-no_other }
