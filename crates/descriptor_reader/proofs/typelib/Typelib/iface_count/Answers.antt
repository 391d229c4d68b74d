use Rattle.std.proofs.Common.{subst}
use Rattle.lib_model.specs.Valid.{IsValid}
use Rattle.descriptor_reader.proofs.ViewLaws.{library_valid}
use Rattle.descriptor_reader.proofs.typelib.Typelib.iface_count.Goals as goal

pub returns-clause-valid : goal.returns-clause-valid
returns-clause-valid c =
    let f = c.self.inside.checked in
    subst IsValid c.self.view_is (library_valid f.file.bytes.now f.are_bytes f.is_fine)
