use Rattle.header_text.proofs.HeaderLaw.{files-declared, scope-declared}
use Rattle.header_text.proofs.laws.a_header_declares_its_scope.Goals as goal

pub returns-clause-scope : goal.returns-clause-scope
returns-clause-scope c = scope-declared

pub returns-clause-files : goal.returns-clause-files
returns-clause-files c = files-declared
