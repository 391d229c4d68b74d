use Rattle.std.proofs.Common.{subst}
use Rattle.lib_model.specs.Valid.{IsConstant}
use Rattle.typelib_faults.proofs.ConstantLaws.{constant_sound}
use Rattle.descriptor_reader.proofs.const_views.ConstView.value.Goals as goal

pub returns-clause-valid : goal.returns-clause-valid
returns-clause-valid c =
    let f = c.self.inside.checked in
    subst IsConstant c.self.view_is (constant_sound f.file.bytes.now c.self.inside.at f.are_bytes c.self.invariant).1
