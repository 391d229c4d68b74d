use Rattle.std.proofs.Common.{◌∙◌, sym}
use Rattle.xpcall_run.proofs.TextLaws.{roots_few}
use Rattle.xpcall_run.proofs.commands.are_roots.Goals as goal

pub returns : goal.returns
returns c =
    c.are_file_names.ensures ∙ roots_few c.args.names.now (sym c.is_empty.ensures ∙ c.if-is_empty.false) c.if-names-gt-MOST_ROOTS.false
