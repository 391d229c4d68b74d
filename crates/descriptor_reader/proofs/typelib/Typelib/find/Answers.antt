use Rattle.std.proofs.Common.{ap, sym, ◌∙◌}
use Rattle.call_model.specs.Tables.{iface_named}
use Rattle.lib_model.specs.declared.contents.Library.{Library}
use Rattle.lib_model.specs.Table.{table_of}
use Rattle.lib_model.proofs.TableLaws.{iface_named_table}
use Rattle.typelib_faults.specs.Places.{library_of}
use Rattle.descriptor_reader.proofs.typelib.Typelib.find.Goals as goal

pub returns : goal.returns
returns c =
    c.find.ensures
    ∙ (sym (iface_named_table (library_of c.self.inside.checked.file.bytes.now) c.args.name.now) ∙ ap (λ (lib : Library). iface_named (table_of lib) c.args.name.now) c.self.view_is)
