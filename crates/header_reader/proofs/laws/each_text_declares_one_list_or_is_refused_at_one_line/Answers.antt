use Rattle.header_reader.proofs.Refusals.{declared_or_refused, declares_once, refused_once}
use Rattle.header_reader.proofs.laws.each_text_declares_one_list_or_is_refused_at_one_line.Goals as goal

pub returns-clause-either : goal.returns-clause-either
returns-clause-either c = declared_or_refused

pub returns-clause-one_list : goal.returns-clause-one_list
returns-clause-one_list c = declares_once

pub returns-clause-one_line : goal.returns-clause-one_line
returns-clause-one_line c = refused_once

pub returns-clause-not_both : goal.returns-clause-not_both
returns-clause-not_both c = λ text decls line is refused. refused.none decls is
