use Rattle.std.proofs.Common.{sym}
use Rattle.std.proofs.lemmas.Bool.{false≢true}
use Rattle.call_scripts.specs.Reading.{iid_of}
use Rattle.call_scripts.proofs.Numerals.{no_iid}
use Rattle.call_scripts.proofs.spellings.iid.Goals as goal

pub returns-in-Err : goal.returns-in-Err
unfolding iid_of
returns-in-Err c =
    sym (no_iid c.args.word.now c.if-word-ne36.false (λ iid. false≢true (c.in-Err.ensures.ok.1 iid)))
