use Rattle.std.proofs.Common.{ap, arith, sym, ◌∙◌}
use Rattle.call_model.specs.Tables.{descends_from}
use Rattle.lib_model.specs.declared.contents.Library.{Library}
use Rattle.lib_model.specs.Table.{table_of}
use Rattle.descriptor_reader.proofs.ViewLaws.{directory_known, meets_is, past_alone}
use Rattle.descriptor_reader.proofs.typelib.Typelib.descends.Goals as goal

pub reaches-requires-clause-fine : goal.reaches-requires-clause-fine
reaches-requires-clause-fine c = directory_known c.self.inside.checked.file.bytes.now c.self.inside.checked.is_fine

pub returns : goal.returns
returns c =
    c.reaches.ensures ∙ (meets_is c.self.inside.checked.file.bytes.now c.args.k c.args.from ∙ ap (λ (lib : Library). descends_from (table_of lib) c.args.k c.args.from) c.self.view_is)

pub returns-then-k-self : goal.returns-then-k-self
returns-then-k-self c =
    let f = c.self.inside.checked.file in
    sym (past_alone f.bytes.now c.args.k c.args.from (omega (arith, f.count_is))) ∙ ap (λ (lib : Library). descends_from (table_of lib) c.args.k c.args.from) c.self.view_is
