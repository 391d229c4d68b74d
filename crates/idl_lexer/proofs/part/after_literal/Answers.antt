use Rattle.std.proofs.lemmas.Bool.Decides.{Decides-eqb}
use Rattle.std.proofs.lemmas.Slice.Eq.{strip_prefix_is}
use Rattle.idl_lexer.proofs.ReadLaws.{literal_by_strip}
use Rattle.idl_lexer.proofs.part.after_literal.Goals as goal

pub returns : goal.returns
returns c =
    let bytes = c.args.bytes.now in
    let word = c.args.word.now in
    literal_by_strip word bytes _ (strip_prefix_is Decides-eqb bytes word _ c.strip_prefix.ensures.cases)
