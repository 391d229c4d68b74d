use Rattle.std.proofs.Common.{◌≡◌, ◌+◌, None, Some, Err, ap, sym}
use Rattle.std.proofs.lemmas.List.{append-nil}
use Rattle.std.specs.Str.Lines.{lines}
use Rattle.call_scripts.specs.Reading.{line_of}
use Rattle.call_scripts.proofs.Laws.{front_read}
use Rattle.call_scripts.proofs.read.read_front.Goals as goal

pub returns-in-Err-NoReading : goal.returns-in-Err-NoReading
returns-in-Err-NoReading c =
    let none : line_of (c.loop-text.number + 1) c.in-Some.text.now ≡ None = c.in-Err-NoReading.ensures.err (ap Err c.in-Err-NoReading.field-0-is) in
    let same : c.add.new.all ≡ c.loop-text.lines = c.in-Err-NoReading.ensures.same in
    rw same (front_read 1 (lines c.args.bytes.now) c.loop-text.lines (Some (c.loop-text.number + 1)) (sym (rw (c.in-Some.ensures.cut, none, append-nil) at c.loop-text.invariant.0)))

pub returns : goal.returns
returns c =
    front_read 1 (lines c.args.bytes.now) c.loop-text.lines None (sym (rw (c.in_default.ensures.cut, append-nil) at c.loop-text.invariant.0))
