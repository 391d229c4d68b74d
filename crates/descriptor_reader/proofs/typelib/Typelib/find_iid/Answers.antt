use Rattle.std.proofs.Common.{ap, sym, ◌∙◌}
use Rattle.call_model.specs.Tables.{iface_with_iid}
use Rattle.lib_model.specs.declared.contents.Library.{Library}
use Rattle.lib_model.specs.Table.{table_of}
use Rattle.lib_model.proofs.TableLaws.{iface_with_iid_table}
use Rattle.typelib_faults.specs.Places.{library_of}
use Rattle.descriptor_reader.proofs.typelib.Typelib.find_iid.Goals as goal

pub returns : goal.returns
returns c =
    c.find_iid.ensures
    ∙ (sym (iface_with_iid_table (library_of c.self.inside.checked.file.bytes.now) c.args.iid.now) ∙ ap (λ (lib : Library). iface_with_iid (table_of lib) c.args.iid.now) c.self.view_is)
