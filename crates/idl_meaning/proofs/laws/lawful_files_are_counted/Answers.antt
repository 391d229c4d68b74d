use Rattle.idl_meaning.proofs.CountedLaws.{files-counted}
use Rattle.idl_meaning.proofs.laws.lawful_files_are_counted.Goals as goal

pub returns : goal.returns
returns c = files-counted
