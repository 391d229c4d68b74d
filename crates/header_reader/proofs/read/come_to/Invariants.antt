use Rattle.std.proofs.Common.{◌≡◌, ◌+◌, ◌≤◌, [], length}
use Rattle.header_model.specs.declared.states.State.TheVariants.{Between}
use Rattle.header_model.specs.Lines.{lines_of}
use Rattle.header_reader.specs.Reading.{names_of, outcome}
use Rattle.header_reader.proofs.Fits.{IsFew}
use Rattle.header_reader.proofs.read.come_to.Given as goal

abbrev pub invariant-loop-rest : goal.invariant-loop-rest
invariant-loop-rest l =
    (outcome l.state l.number (lines_of l.rest) ≡ outcome (Between []) 1 (lines_of l.fn.text)) × (l.number + length l.rest ≤ length l.fn.text + 1)
    × IsFew l.number l.state × (l.names ≡ names_of l.state)

abbrev pub decreases-loop-rest : goal.decreases-loop-rest
decreases-loop-rest l = length l.rest
