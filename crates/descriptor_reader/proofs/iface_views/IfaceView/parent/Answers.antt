use Rattle.std.proofs.Common.{ap, ◌∙◌}
use Rattle.descriptor_reader.specs.Views.{IfaceOf}
use Rattle.lib_model.specs.Valid.{parent_of}
use Rattle.descriptor_reader.proofs.ViewLaws.{directory_known, parent_is}
use Rattle.descriptor_reader.proofs.iface_views.IfaceView.parent.Goals as goal

pub links-parent-requires-clause-fine : goal.links-parent-requires-clause-fine
links-parent-requires-clause-fine c = directory_known c.self.inside.checked.file.bytes.now c.self.inside.checked.is_fine

pub returns : goal.returns
returns c =
    c.links-parent.ensures.parent
    ∙ (parent_is c.self.inside.checked.file.bytes.now c.self.inside.number ∙ ap (λ (v : IfaceOf). parent_of v.library.ifaces v.number) c.self.view_is)
