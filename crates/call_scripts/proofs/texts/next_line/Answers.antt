use Rattle.std.proofs.Common.{sym, ap, length, arith, length-append}
use Rattle.line_words.proofs.Marks.{cut_gives}
use Rattle.call_scripts.proofs.TextLines.{lines_cut, lines_last}
use Rattle.call_scripts.proofs.texts.next_line.Goals as goal

pub returns-in-Some-clause-cut : goal.returns-in-Some-clause-cut
returns-in-Some-clause-cut c =
    rw c.without_return.ensures (lines_cut c.args.bytes.now c.in-Some.line.now c.in-Some.rest.now (sym c.in-Some.ensures))

pub returns-in-Some-clause-shorter : goal.returns-in-Some-clause-shorter
returns-in-Some-clause-shorter c =
    let parts = cut_gives 10 c.args.bytes.now c.in-Some.line.now c.in-Some.rest.now (sym c.in-Some.ensures) in
    omega (arith, simp length-append at (ap length parts.0))

pub returns-in-None-clause-cut : goal.returns-in-None-clause-cut
returns-in-None-clause-cut c = lines_last c.args.bytes.now (sym c.in-None.ensures) (sym c.if-is_empty.ensures)
