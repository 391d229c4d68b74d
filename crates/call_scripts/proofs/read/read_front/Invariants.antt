use Rattle.std.proofs.Common.{◌≡◌, ◌+◌, ◌≤◌, length}
use Rattle.std.specs.Str.Lines.{lines}
use Rattle.call_scripts.specs.Reading.{front_of, with_lines}
use Rattle.call_scripts.proofs.read.read_front.Given as goal

abbrev pub invariant-loop-text : goal.invariant-loop-text
invariant-loop-text l =
    (with_lines l.lines (front_of (l.number + 1) (lines l.rest)) ≡ front_of 1 (lines l.fn.bytes)) × (l.number + length l.rest ≤ length l.fn.bytes)

abbrev pub decreases-loop-text : goal.decreases-loop-text
decreases-loop-text l = length l.rest
